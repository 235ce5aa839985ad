use Rattle.std.proofs.Common.{◌≡◌, sym, ◌∙◌, ap, subst, ◌++◌, ◌∷◌, [], take, length, ◌+◌, arith, length-take}
use Rattle.std.specs.Prelude.{map}
use Rattle.sp_text.specs.Violations.{first, first_in_files, in_file}
use Rattle.sp_naming.specs.Names.{at_name, is_among, name_of, repeat_rule, repeated, IsIndex}
use Rattle.sp_naming.proofs.Gathering.{next_item}
use Rattle.sp_naming.proofs.Indexes.{length-names, map-more, repeated-more}
use Rattle.sp_naming.proofs.declared.indexed.Goals as goal

pub loop-place-preserved : goal.loop-place-preserved
loop-place-preserved c =
    let ds = c.args.all.now in
    let i = c.loop-place.place in
    let d = c.index-all-place.result in
    let before = take i ds in
    let names = map name_of before in
    let next : before ++ d ∷ [] ≡ take (i + 1) ds = next_item ds i d c.loop-place-test.true c.index-all-place.is in
    let count : i ≡ length names = omega (arith, length-names name_of before, length-take i ds) in
    let noted = c.in_ok-known.ensures names c.loop-place.invariant.index count in
    let known : c.in_ok-known.known ≡ is_among names d.name = noted.0 ∙ ap (is_among names) c.bytes.ensures in
    let rule = repeat_rule (is_among names d.name) d.span in
    record {
      index = subst (λ z. IsIndex z (at_name c.note.new.index)) (ap (λ z. names ++ z ∷ []) c.bytes.ensures ∙ map-more name_of before d ∙ ap (map name_of) next) noted.1;
      found =
          c.earlier_in_files-found.ensures (repeated [] before) (in_file d.file rule) c.loop-place.invariant.found (c.in_file.ensures rule (c.repeat_rule.ensures ∙ ap (λ b. first (repeat_rule b d.span)) known))
          ∙ ap first_in_files (sym (repeated-more before d)) ∙ ap (λ z. first_in_files (repeated [] z)) next;
    }
