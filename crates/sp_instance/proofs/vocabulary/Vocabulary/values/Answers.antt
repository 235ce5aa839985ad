use Rattle.std.proofs.Common.{◌<◌, sym, ◌∙◌, ap, subst, ◌++◌, ◌∷◌, [], take, length}
use Rattle.sp_text.specs.Violations.{first}
use Rattle.sp_core.specs.Machine.{types_of}
use Rattle.sp_instance.specs.Meanings.{value_broken, values_broken}
use Rattle.sp_instance.proofs.Texts.{next_broken, next_made, room}
use Rattle.sp_instance.proofs.vocabulary.Vocabulary.values.Goals as goal

pub push-requires : goal.push-requires
push-requires c =
    subst (λ a. length a < 8) (sym c.loop-k.invariant.made) (room c.args.self.now c.args.proper c.args.formals.now c.args.texts.now c.loop-k.k c.loop-k-test.true c.requires.few)

pub loop-k-preserved : goal.loop-k-preserved
loop-k-preserved c =
    let w = c.args.self.now in
    let p = c.args.proper in
    let fs = c.args.formals.now in
    let vs = c.args.texts.now in
    let k = c.loop-k.k in
    let f = c.index-formals-k.result in
    let v = c.index-texts-k.result in
    record {
      made = c.push.ensures ∙ (λ i. c.loop-k.invariant.made i ++ c.value-made.ensures.made i ∷ []) ∙ next_made w p fs vs k f v c.requires.same c.loop-k-test.true c.index-formals-k.is c.index-texts-k.is;
      found =
          c.earlier-found.ensures (values_broken w p (types_of (take k fs)) (take k vs)) (value_broken w p f.ty v) c.loop-k.invariant.found c.value-made.ensures.found
          ∙ ap first (next_broken w p fs vs k f v c.requires.same c.loop-k-test.true c.index-formals-k.is c.index-texts-k.is);
    }
