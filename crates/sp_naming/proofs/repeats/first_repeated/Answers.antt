use Rattle.std.proofs.Common.{◌≡◌, sym, ◌∙◌, ap, subst, ◌++◌, ◌∷◌, [], take, length, ◌+◌, arith, length-take}
use Rattle.std.specs.Prelude.{map}
use Rattle.sp_text.specs.Violations.{first}
use Rattle.sp_naming.specs.Names.{at_name, is_among, repeat_rule, repeated_names, IsIndex}
use Rattle.sp_naming.proofs.Gathering.{next_item}
use Rattle.sp_naming.proofs.Indexes.{ident_name, length-names, map-more, repeated_names-more}
use Rattle.sp_naming.proofs.repeats.first_repeated.Goals as goal

pub loop-place-preserved : goal.loop-place-preserved
loop-place-preserved c =
    let xs = c.args.idents.now in
    let i = c.loop-place.place in
    let x = c.index-idents-place.result in
    let before = take i xs in
    let names = map ident_name before in
    let next : before ++ x ∷ [] ≡ take (i + 1) xs = next_item xs i x c.loop-place-test.true c.index-idents-place.is in
    let count : i ≡ length names = omega (arith, length-names ident_name before, length-take i xs) in
    let noted = c.in_ok-known.ensures names c.loop-place.invariant.index count in
    let known : c.in_ok-known.known ≡ is_among names x.name = noted.0 ∙ ap (is_among names) c.bytes.ensures in
    let rule = repeat_rule (is_among names x.name) x.span in
    record {
      index = subst (λ z. IsIndex z (at_name c.note.new.index)) (ap (λ z. names ++ z ∷ []) c.bytes.ensures ∙ map-more ident_name before x ∙ ap (map ident_name) next) noted.1;
      found =
          c.earlier-found.ensures (repeated_names [] before) rule c.loop-place.invariant.found (c.repeat_rule.ensures ∙ ap (λ b. first (repeat_rule b x.span)) known)
          ∙ ap first (sym (repeated_names-more before x)) ∙ ap (λ z. first (repeated_names [] z)) next;
    }
