use Rattle.std.proofs.Common.{◌≡◌, sym, ◌∙◌, ap, subst, ◌++◌, ◌∷◌, ◌+◌, [], refl, take}
use Rattle.std.specs.Prelude.{false, map}
use Rattle.std.specs.List.{flat_map}
use Rattle.std.proofs.lemmas.List.{take_all}
use Rattle.sp_text.specs.Violations.{first}
use Rattle.sp_naming.proofs.Gathering.{next_item}
use Rattle.sp_core.specs.Instances.{TableParts}
use Rattle.sp_instance.specs.Meanings.{value_broken}
use Rattle.sp_instance.specs.Tables.{IsSetOf, have_arguments, keys_after, repeat_broken, row_broken, row_key, row_of, row_span, rows_repeated}
use Rattle.sp_instance.proofs.Lists.{judged, mapped}
use Rattle.sp_instance.proofs.Seen.{both_none, keys_more, rows_more}
use Rattle.sp_instance.proofs.tables.table.Goals as goal

pub loop-row-preserved : goal.loop-row-preserved
loop-row-preserved c =
    let w = c.args.words.now in
    let q = c.args.param.now in
    let name = c.args.text.now.name.span in
    let make = row_broken w q name in
    let key = row_key w q name in
    let rs = c.items-rows.result.now in
    let i = c.loop-row.row-index in
    let r = c.row-item.result in
    let before = take i rs in
    let keys = keys_after key [] before in
    let next : before ++ r ∷ [] ≡ take (i + 1) rs = next_item rs i r c.loop-row-test.true c.row-item.is in
    let was = c.loop-row.invariant in
    let row = c.in_ok-broken.ensures in
    let noted = row.repeated keys was.known in
    let own = c.earlier-own.ensures (flat_map make before) (make r) was.own row.own in
    let repeated = c.earlier-repeated.ensures (rows_repeated key [] before) (repeat_broken keys (key r) (row_span r)) was.repeated noted.0 in
    record {
      made = λ e f.
          let o = both_none (flat_map make before) (make r) _ _ _ was.own row.own own e in
          let p = both_none (rows_repeated key [] before) (repeat_broken keys (key r) (row_span r)) _ _ _ was.repeated noted.0 repeated f in
          mapped (row_of w q) rs i r _ _ _ c.loop-row-test.true c.row-item.is (was.made o.0 p.0) (row.made o.1 p.1) refl;
      other = row.other ∙ was.other;
      known = subst (λ z. IsSetOf z (have_arguments c.add_row.new.table.rows)) (sym (keys_more key [] before r) ∙ ap (keys_after key []) next) noted.1;
      own = judged make rs i r c.earlier-own.result c.loop-row-test.true c.row-item.is own;
      repeated = repeated ∙ ap first (rows_more key [] before r) ∙ ap (λ z. first (rows_repeated key [] z)) next;
    }

pub returns-clause-made : goal.returns-clause-made
returns-clause-made c e =
    let w = c.args.words.now in
    let q = c.args.param.now in
    let name = c.args.text.now.name.span in
    let rs = c.items-rows.result.now in
    let vs = flat_map (row_broken w q name) (take c.loop-row.row-index rs) in
    let us = rows_repeated (row_key w q name) [] (take c.loop-row.row-index rs) in
    let was = c.loop-row.invariant in
    let both = c.earlier.ensures vs us was.own was.repeated in
    let ws = value_broken w false q.ty c.args.text.now.other in
    let all = both_none (vs ++ us) ws _ _ _ both c.value-other.ensures.found (c.earlier-2.ensures (vs ++ us) ws both c.value-other.ensures.found) e in
    let each = both_none vs us _ _ _ was.own was.repeated both all.0 in
    let rows = was.made each.0 each.1 ∙ ap (map (row_of w q)) (take_all c.loop-row.row-index rs c.loop-row-test.false ∙ c.items-rows.ensures) in
    let other = was.other ∙ ap (λ (t : TableParts). t.other) c.new-table.ensures ∙ c.value-other.ensures.made in
    λ i. record { rows = rows i; other = other i }
