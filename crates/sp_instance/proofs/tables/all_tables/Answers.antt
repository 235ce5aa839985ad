use Rattle.std.proofs.Common.{◌∙◌, ap, take}
use Rattle.std.specs.List.{flat_map}
use Rattle.sp_text.specs.Violations.{first}
use Rattle.sp_instance.specs.Tables.{given_broken, param_broken, param_table, table_given}
use Rattle.sp_instance.proofs.Lists.{judged, mapped}
use Rattle.sp_instance.proofs.Seen.{both_none}
use Rattle.sp_instance.proofs.tables.all_tables.Goals as goal

pub loop-param-preserved : goal.loop-param-preserved
loop-param-preserved c =
    let w = c.args.words.now in
    let texts = c.args.texts.now in
    let make = param_broken w texts in
    let xs = c.args.params.now in
    let i = c.loop-param.param-index in
    let x = c.param-item.result in
    let was = c.loop-param.invariant in
    let own = c.in_ok-made.ensures.found ∙ ap (λ o. first (given_broken w x o)) c.find.ensures in
    let found = c.earlier-found.ensures (flat_map make (take i xs)) (make x) was.found own in
    record {
      made = λ e.
          let none = both_none (flat_map make (take i xs)) (make x) _ _ _ was.found own found e in
          mapped (param_table w texts) xs i x _ _ _ c.loop-param-test.true c.param-item.is (was.made none.0) c.in_ok-push.ensures.items (c.in_ok-made.ensures.made none.1 ∙ ap (table_given w x) c.find.ensures);
      found = judged make xs i x c.earlier-found.result c.loop-param-test.true c.param-item.is found;
    }
