use Rattle.std.proofs.Common.{[], length, subst, sym}
use Rattle.std.specs.Prelude.{OnOk, IfErr}
use Rattle.std.proofs.lemmas.Bool.Decides.{Decides-eqb}
use Rattle.std.proofs.lemmas.List.Elements.{All-head}
use Rattle.sp_formulas.specs.Generated.{IsAdded, IsRefused}
use Rattle.sp_formulas.specs.Typed.{AreTypedFormulas, IsTypedFormula}
use Rattle.sp_generator.specs.Pairs.{agreement_at}
use Rattle.sp_generator.proofs.PairLemmas.{one_function}
use Rattle.sp_generator.proofs.pairs.add_pair.Goals as goal

pub add_agreement-requires-clause-typed : goal.add_agreement-requires-clause-typed
add_agreement-requires-clause-typed c =
    All-head (IsTypedFormula c.args.spec.now)
    (agreement_at c.args.spec.now c.args.pair.now (record { args = c.in-Change.args; value = c.in-Change.value }) (record { args = c.in-Change-deed.others; value = c.in-Change-deed.other })) []
    (subst (AreTypedFormulas c.args.spec.now)
    (one_function c.args.spec.now c.args.pair.now c.in-Change.g c.in-Change.args c.in-Change.value c.in-Change.is c.in-Change-deed.h c.in-Change-deed.others c.in-Change-deed.other c.in-Change-deed.is
    ((Decides-eqb c.in-Change.g c.in-Change-deed.h).1 c.if-g-h.false))
    c.requires.typed)

pub returns-else-g-h-clause-ok : goal.returns-else-g-h-clause-ok
returns-else-g-h-clause-ok c =
    subst (λ fs. OnOk c.add_agreement.result (IsAdded c.args.spec.now c.args.out.now.items c.add_agreement.new.out.items fs))
    (sym (one_function c.args.spec.now c.args.pair.now c.in-Change.g c.in-Change.args c.in-Change.value c.in-Change.is c.in-Change-deed.h c.in-Change-deed.others c.in-Change-deed.other c.in-Change-deed.is
    ((Decides-eqb c.in-Change.g c.in-Change-deed.h).1 c.if-g-h.false)))
    c.add_agreement.ensures.ok

pub returns-else-g-h-clause-refused : goal.returns-else-g-h-clause-refused
returns-else-g-h-clause-refused c =
    subst (λ fs. IfErr c.add_agreement.result (λ e. IsRefused c.args.spec.now (length c.args.out.now.items) fs e))
    (sym (one_function c.args.spec.now c.args.pair.now c.in-Change.g c.in-Change.args c.in-Change.value c.in-Change.is c.in-Change-deed.h c.in-Change-deed.others c.in-Change-deed.other c.in-Change-deed.is
    ((Decides-eqb c.in-Change.g c.in-Change-deed.h).1 c.if-g-h.false)))
    c.add_agreement.ensures.refused
