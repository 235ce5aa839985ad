-- Each flow formula is named by its function, and its variables by formals and numbers.
use Rattle.std.proofs.Common.{◌≡◌, ℕ, zero, suc, ◌+◌, ◌==◌, Bool, true, false, List, [], ◌∷◌, ◌++◌, drop, if◌then◌else◌, length, map, refl}
use Rattle.std.specs.Fmt.{decimal}
use Rattle.std.specs.List.{All, flat_map}
use Rattle.std.proofs.lemmas.List.Elements.{All-append, All-cons, All-head, All-nil, All-tail, All-weaker}
use Rattle.sp_values.specs.declared.value.Ty.{Ty}
use Rattle.sp_values.specs.declared.value.Op.TheVariants as op
use Rattle.sp_core.specs.declared.function.Formal.{Formal}
use Rattle.sp_core.specs.declared.function.Function.{Function}
use Rattle.sp_core.specs.declared.function.Kind.{Kind}
use Rattle.sp_core.specs.declared.function.Kind.TheVariants as kind
use Rattle.sp_core.specs.Effects.{effect_trees}
use Rattle.sp_core.specs.Parts.{Parts}
use Rattle.sp_core.specs.Tree.{Not, Tree, Trees, Two, tree}
use Rattle.sp_sequent.specs.declared.formula.FormulaKind.{FormulaKind}
use Rattle.sp_sequent.specs.declared.formula.FormulaKind.TheVariants as is
use Rattle.sp_formulas.specs.Formulas.{About, Formula, Spot, about, agreement_of, agreements, agreements_with, bound_from, conditions, deed_formulas, denied, derivation_formulas, equal_all, exception_formulas, formula, formulas, formulas_from, function_formulas, guard_formulas, guards_of, item_formulas, level_at, reference_formula, reference_formulas, spot}
use Rattle.sp_formulas.specs.Items.{Answer, Change, Deed, Item, items_in}
use Rattle.sp_formulas.specs.Moves.{raise, raise_all}
use Rattle.sp_formulas.specs.References.{Reference, references, references_in}
use Rattle.sp_plain_names.specs.Names.{HasPlainName, HasPlainNames, IsPlain}
use Rattle.sp_headline.proofs.Digits.{decimal_free}
use Rattle.sp_headline.proofs.Expressions.{HasFreeName, plain_free}
use Rattle.sp_headline.proofs.Texts.{Free, free_cons}

-- its name and those of its variables hold no line feed
pub record IsNamed (o : Formula) : Type 0 where
  pub name : Free o.name
  pub vars : All HasFreeName o.vars

-- so it is with what formulas are made for
record IsAbout (o : About) : Type 0 where
  pub name : Free o.name
  pub formals : All HasFreeName o.formals

bound_named : (k : ℕ) (ts : List Ty) → All HasFreeName (bound_from k ts)
bound_named k [] = All-nil HasFreeName
bound_named k (t ∷ ts) = All-cons HasFreeName _ _ (free_cons 35 (decimal k) refl (decimal_free k)) (bound_named (k + 1) ts)

module _ (p : Parts) where
  formula_named : (o : About) (k : ℕ) (ts : List Ty) (hyps : List Tree) (goal : Tree) → IsAbout o → IsNamed (formula p o k ts hyps goal)
  formula_named o k ts hyps goal h = record {
    name = h.name;
    vars = All-append HasFreeName o.formals (bound_from (length o.formals) ts) h.formals (bound_named (length o.formals) ts);
  }

  references_named : (o : Spot) (hyps : List Tree) (rs : List Reference) → IsAbout o.about → All IsNamed (reference_formulas p o hyps rs)
  references_named o hyps [] h = All-nil IsNamed
  references_named o hyps (r ∷ rs) h = All-cons IsNamed (reference_formula p o hyps r) (reference_formulas p o hyps rs) (formula_named o.about o.known (o.bound ++ r.vars) (hyps ++ r.path) (Two op.LevelLe (level_at p r.fun r.args) o.upper) h) (references_named o hyps rs h)

  exceptions_named : (o : Spot) (before es : List Tree) → IsAbout o.about → All IsNamed (exception_formulas p o before es)
  exceptions_named o before [] h = All-nil IsNamed
  exceptions_named o before (e ∷ es) h = All-append IsNamed _ _ (references_named o before (references e) h) (exceptions_named o (before ++ Not e ∷ []) es h)

  guards_named : (o : Spot) (before cs : List Tree) → IsAbout o.about → All IsNamed (guard_formulas p o before cs)
  guards_named o before [] h = All-nil IsNamed
  guards_named o before (c ∷ cs) h = All-append IsNamed _ _ (references_named o before (references c) h) (guards_named o (before ++ c ∷ []) cs h)

  module _ (g : ℕ) (f : Function) (name : Free f.name) (formals : All HasFreeName f.formals) where
    about_named : (k : FormulaKind) → IsAbout (about k g f)
    about_named k = record { name = name; formals = formals }

    deed_named : (ts : List Ty) (gs : List Tree) (d : Deed) → All IsNamed (deed_formulas p g f ts gs d)
    deed_named ts gs (Change h ds e) =
        All-cons IsNamed _ _ (formula_named (about is.Change g f) 0 ts (denied f ++ gs) (Two op.LevelLe (tree f.level) (level_at p h ds)) (about_named is.Change))
        (All-append IsNamed _ _ (guards_named (spot is.GuardReference g f ts (level_at p h ds)) (denied f) gs (about_named is.GuardReference))
        (All-append IsNamed _ _ (references_named (spot is.ValueReference g f ts (level_at p h ds)) (denied f ++ gs) (references e) (about_named is.ValueReference))
        (references_named (spot is.TargetReference g f ts (tree f.level)) (denied f) (references_in ds) (about_named is.TargetReference))))
    deed_named ts gs (Answer e) =
        All-append IsNamed _ _ (guards_named (spot is.ResultGuardReference g f ts (tree f.level)) (denied f) gs (about_named is.ResultGuardReference))
        (references_named (spot is.ResultReference g f ts (tree f.level)) (denied f ++ gs) (references e) (about_named is.ResultReference))

    items_named : (is' : List Item) → All IsNamed (flat_map (item_formulas p g f) is')
    items_named [] = All-nil IsNamed
    items_named (i ∷ is') = All-append IsNamed _ _ (deed_named i.vars (guards_of f i) i.deed) (items_named is')

    one_or_none : (t : Bool) (o : Formula) → IsNamed o → All IsNamed (if t then o ∷ [] else [])
    one_or_none true o h = All-cons IsNamed o [] h (All-nil IsNamed)
    one_or_none false o h = All-nil IsNamed

    agreement_named : (i j : Item) (d e : Deed) → All IsNamed (agreement_of p g f i j d e)
    agreement_named i j (Change h ds e) (Change k es d) =
        let hyps = denied f ++ (i.guards ++ (map (raise (length f.formals) (length i.vars)) (guards_of f j) ++ equal_all ds (raise_all (length f.formals) (length i.vars) es))) in
        let goal = Two op.Same e (raise (length f.formals) (length i.vars) d) in
        one_or_none (h == k) (formula p (about is.Agreement g f) 0 (i.vars ++ j.vars) hyps goal)
        (formula_named (about is.Agreement g f) 0 (i.vars ++ j.vars) hyps goal (about_named is.Agreement))
    agreement_named i j (Change h ds e) (Answer d) = All-nil IsNamed
    agreement_named i j (Answer d) (Change h ds e) = All-nil IsNamed
    agreement_named i j (Answer d) (Answer e) = All-nil IsNamed

    with_named : (i : Item) (js : List Item) → All IsNamed (agreements_with p g f i js)
    with_named i [] = All-nil IsNamed
    with_named i (j ∷ js) = All-append IsNamed _ _ (agreement_named i j i.deed j.deed) (with_named i js)

    agreements_named : (is' : List Item) → All IsNamed (agreements p g f is')
    agreements_named [] = All-nil IsNamed
    agreements_named (i ∷ is') = All-append IsNamed _ _ (with_named i is') (agreements_named is')

    derivation_named : (k : Kind) → All IsNamed (derivation_formulas p g f k)
    derivation_named (kind.Primitive t e) = All-nil IsNamed
    derivation_named (kind.Derived t e) = references_named (record { about = about is.DerivationReference g f; known = length f.formals; bound = []; upper = tree f.level }) [] (references (tree e)) (about_named is.DerivationReference)
    derivation_named (kind.Operation es) = All-nil IsNamed
    derivation_named (kind.Both t es) = All-nil IsNamed

    function_named : All IsNamed (function_formulas p g f)
    function_named =
        All-append IsNamed _ _ (exceptions_named (spot is.ExceptionReference g f [] (tree f.level)) [] (conditions f) (about_named is.ExceptionReference))
        (All-append IsNamed _ _ (derivation_named f.kind)
        (All-append IsNamed _ _ (items_named (items_in (effect_trees f.kind))) (agreements_named (items_in (effect_trees f.kind)))))

  from_named : (g : ℕ) (fs : List Function) → All (λ f. IsPlain f.name) fs → All (λ f. All HasPlainName f.formals) fs → All IsNamed (formulas_from p g fs)
  from_named g [] h k = All-nil IsNamed
  from_named g (f ∷ fs) h k =
      All-append IsNamed (function_formulas p g f) (formulas_from p (g + 1) fs)
      (function_named g f (plain_free f.name (All-head (λ (f : Function). IsPlain f.name) f fs h))
      (All-weaker HasPlainName HasFreeName (λ x e. plain_free x.name e) f.formals (All-head (λ (f : Function). All HasPlainName f.formals) f fs k)))
      (from_named (g + 1) fs (All-tail (λ (f : Function). IsPlain f.name) f fs h) (All-tail (λ (f : Function). All HasPlainName f.formals) f fs k))

  pub formulas_named : HasPlainNames p → All IsNamed (formulas p)
  formulas_named h = from_named 0 p.functions h.functions h.formals
