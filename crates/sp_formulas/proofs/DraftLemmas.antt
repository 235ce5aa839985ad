-- What a typed formula has room for, and the limits of one formula in their order.
use Rattle.std.proofs.Common.{◌≡◌, refl, sym, ◌∙◌, ap, arith, ℕ, suc, ◌+◌, ◌-◌, ◌<◌, ◌≤◌, Bool, true, false, List, [], ◌∷◌, ◌++◌, map, length, drop}
use Rattle.std.specs.Prelude.{nat_lt, if◌then◌else◌, All, Some, None, ◌^◌}
use Rattle.std.proofs.lemmas.List.{length-append, length-map, map-append, map_push}
use Rattle.std.proofs.lemmas.List.Elements.{All-cons, All-head, All-tail}
use Rattle.std.proofs.lemmas.Bool.Decides.{Decides-ltb}
use Rattle.sp_values.specs.declared.value.Ty.{Ty}
use Rattle.sp_values.specs.declared.value.Ty.TheVariants as ty
use Rattle.sp_core.specs.declared.expr.Expr.{Expr}
use Rattle.sp_core.specs.declared.function.Assertion.{Assertion}
use Rattle.sp_core.specs.declared.function.Formal.{Formal}
use Rattle.sp_core.specs.Machine.{types_of}
use Rattle.sp_core.specs.Measures.{nodes, nodes_in}
use Rattle.sp_core.specs.Parts.{Parts, signature}
use Rattle.sp_core.specs.Tree.{Tree, Trees, Const, Var, Not, Two, If, Param, Look, Every, New, none, more, tree, trees_of}
use Rattle.sp_core.specs.WellFormed.{IsAssertion, IsWellFormed}
use Rattle.sp_sequent.specs.declared.formula.Formula.{Formula as Made}
use Rattle.sp_sequent.specs.Limits.{HasFewNodes, HasFewTerms, formula_nodes, formula_terms}
use Rattle.sp_formulas.specs.Assertions.{instances}
use Rattle.sp_formulas.specs.Drafts.{IsDraft, IsFault, IsOverNodes}
use Rattle.sp_formulas.specs.Formulas.{About, Formula, bound_from, formula, formula_as, known_from, types_with}
use Rattle.sp_formulas.specs.Generated.{IsAdded, IsRefused, hypothesis_tree}
use Rattle.sp_formulas.specs.Limits.{fault_of, first_fault, instances_fault, nodes_fault, or_else, terms_fault}
use Rattle.sp_formulas.specs.Moves.{AreBelow, IsBelow, all_renumbered, raised, raise, renumbered, settle, settle_all}
use Rattle.sp_formulas.specs.Typed.{IsTypedFormula}
use Rattle.sp_formulas.specs.declared.drafting.Draft.{Draft}
use Rattle.sp_formulas.specs.declared.fault.FormulaFault.{FormulaFault}
use Rattle.sp_formulas.specs.declared.fault.FormulaFault.TheVariants as fault
use Rattle.sp_formulas.specs.declared.spot.Hypothesis.{Hypothesis}
use Rattle.sp_formulas.proofs.Alls.{All-back, All-front}
use Rattle.sp_formulas.proofs.TypedLemmas.{typed_below}

-- Moving an expression keeps its nodes, and lowers no number

mutual
  nodes_renumbered : (v q : ℕ → ℕ) (e : Tree) → nodes (renumbered v q e) ≡ nodes e
  nodes_renumbered v q (Const c) = refl
  nodes_renumbered v q (Var k) = refl
  nodes_renumbered v q (Not a) = ap suc (nodes_renumbered v q a)
  nodes_renumbered v q (Two o a b) = let x = nodes_renumbered v q a in let y = nodes_renumbered v q b in λ i. suc (x i + y i)
  nodes_renumbered v q (If c a b) = let x = nodes_renumbered v q c in let y = nodes_renumbered v q a in let z = nodes_renumbered v q b in λ i. suc (x i + (y i + z i))
  nodes_renumbered v q (Param p ds) = ap suc (all_nodes_renumbered v q ds)
  nodes_renumbered v q (Look g ds) = ap suc (all_nodes_renumbered v q ds)
  nodes_renumbered v q (Every k t b) = ap suc (nodes_renumbered v q b)
  nodes_renumbered v q (New g ds) = ap suc (all_nodes_renumbered v q ds)

  all_nodes_renumbered : (v q : ℕ → ℕ) (ds : Trees) → nodes_in (all_renumbered v q ds) ≡ nodes_in ds
  all_nodes_renumbered v q none = refl
  all_nodes_renumbered v q (more d ds) = let x = nodes_renumbered v q d in let y = all_nodes_renumbered v q ds in λ i. x i + y i

mutual
  pub nodes_settled : (n : ℕ) (e : Tree) → nodes (settle n e) ≡ nodes e
  nodes_settled n (Const c) = refl
  nodes_settled n (Var k) = refl
  nodes_settled n (Not a) = ap suc (nodes_settled n a)
  nodes_settled n (Two o a b) = let x = nodes_settled n a in let y = nodes_settled n b in λ i. suc (x i + y i)
  nodes_settled n (If c a b) = let x = nodes_settled n c in let y = nodes_settled n a in let z = nodes_settled n b in λ i. suc (x i + (y i + z i))
  nodes_settled n (Param p ds) = ap suc (all_nodes_settled n ds)
  nodes_settled n (Look g ds) = ap suc (all_nodes_settled n ds)
  nodes_settled n (Every k t b) = ap suc (nodes_renumbered (raised k (n - k)) (λ j. j + (n - k)) b)
  nodes_settled n (New g ds) = ap suc (all_nodes_settled n ds)

  all_nodes_settled : (n : ℕ) (ds : Trees) → nodes_in (settle_all n ds) ≡ nodes_in ds
  all_nodes_settled n none = refl
  all_nodes_settled n (more d ds) = let x = nodes_settled n d in let y = all_nodes_settled n ds in λ i. x i + y i

raised_up : (m d k : ℕ) → k ≤ raised m d k
raised_up m d k = by (nat_lt k m)
  where
    by : (b : Bool) → k ≤ (if b then k else k + d)
    by true = omega arith
    by false = omega arith

mutual
  below_raised : (b m d : ℕ) (e : Tree) → IsBelow b (raise m d e) → IsBelow b e
  below_raised b m d (Const c) h = tt
  below_raised b m d (Var k) h = omega (arith, h, raised_up m d k)
  below_raised b m d (Not a) h = below_raised b m d a h
  below_raised b m d (Two o a c) h = (below_raised b m d a h.0, below_raised b m d c h.1)
  below_raised b m d (If c a e) h = (below_raised b m d c h.0, below_raised b m d a h.1, below_raised b m d e h.2)
  below_raised b m d (Param p ds) h = all_below_raised b m d ds h
  below_raised b m d (Look g ds) h = all_below_raised b m d ds h
  below_raised b m d (Every k t a) h = (omega (arith, h.0), below_raised b m d a h.1)
  below_raised b m d (New g ds) h = all_below_raised b m d ds h

  all_below_raised : (b m d : ℕ) (ds : Trees) → AreBelow b (all_renumbered (raised m d) (λ k. k + d) ds) → AreBelow b ds
  all_below_raised b m d none h = tt
  all_below_raised b m d (more e ds) h = (below_raised b m d e h.0, all_below_raised b m d ds h.1)

mutual
  pub below_settled : (b n : ℕ) (e : Tree) → IsBelow b (settle n e) → IsBelow b e
  below_settled b n (Const c) h = tt
  below_settled b n (Var k) h = h
  below_settled b n (Not a) h = below_settled b n a h
  below_settled b n (Two o a c) h = (below_settled b n a h.0, below_settled b n c h.1)
  below_settled b n (If c a e) h = (below_settled b n c h.0, below_settled b n a h.1, below_settled b n e h.2)
  below_settled b n (Param p ds) h = all_below_settled b n ds h
  below_settled b n (Look g ds) h = all_below_settled b n ds h
  below_settled b n (Every k t a) h = (omega (arith, h.0), below_raised b k (n - k) a h.1)
  below_settled b n (New g ds) h = all_below_settled b n ds h

  all_below_settled : (b n : ℕ) (ds : Trees) → AreBelow b (settle_all n ds) → AreBelow b ds
  all_below_settled b n none h = tt
  all_below_settled b n (more e ds) h = (below_settled b n e h.0, all_below_settled b n ds h.1)

-- a denial has the numbers of what it denies
hypothesis_below : (b n : ℕ) (h : Hypothesis) → IsBelow b (settle n (hypothesis_tree h)) → IsBelow b (tree h.e.now)
hypothesis_below b n h q = by h.denied q
  where
    by : (d : Bool) → IsBelow b (settle n (if d then Not (tree h.e.now) else tree h.e.now)) → IsBelow b (tree h.e.now)
    by true q = below_settled b n (tree h.e.now) q
    by false q = below_settled b n (tree h.e.now) q

hypotheses_below : (b n : ℕ) (hs : List Hypothesis) → All (λ e. IsBelow b e) (map (settle n) (map hypothesis_tree hs)) → All (λ h. IsBelow b (tree h.e.now)) hs
hypotheses_below b n [] q = λ k d l. absurd (omega (arith, l))
hypotheses_below b n (h ∷ hs) q =
    All-cons (λ (h : Hypothesis). IsBelow b (tree h.e.now)) h hs (hypothesis_below b n h (All-head (λ e. IsBelow b e) (settle n (hypothesis_tree h)) (map (settle n) (map hypothesis_tree hs)) q))
    (hypotheses_below b n hs (All-tail (λ e. IsBelow b e) (settle n (hypothesis_tree h)) (map (settle n) (map hypothesis_tree hs)) q))

-- The variables of a formula

types_bound : (k : ℕ) (ts : List Ty) → types_of (bound_from k ts) ≡ ts
types_bound k [] = refl
types_bound k (t ∷ ts) = ap (λ x. t ∷ x) (types_bound (k + 1) ts)

pub types_are : (o : About) (ts : List Ty) → types_of (o.formals ++ bound_from (length o.formals) ts) ≡ types_with o ts
types_are o ts = map-append (λ (f : Formal). f.ty) o.formals (bound_from (length o.formals) ts) ∙ ap (λ x. types_of o.formals ++ x) (types_bound (length o.formals) ts)

-- Limits

over : (a b : ℕ) → a < b → nat_lt a b ≡ true
over a b h = (Decides-ltb a b).1 h

within : (a b : ℕ) → b ≤ a → nat_lt a b ≡ false
within a b h = by (nat_lt a b) refl
  where
    by : (t : Bool) → nat_lt a b ≡ t → t ≡ false
    by true q = let l : a < b = (Decides-ltb a b).0 q in absurd (omega arith)
    by false q = refl

module _ (p : Parts) (n : ℕ) (o : Formula) where
  few_here : n ≤ 4096 → fault_of p n o ≡ instances_fault p n o
  few_here h = ap (λ b. if b then Some fault.TooManyFormulas else instances_fault p n o) (within 4096 n h)

  pub too_many_instances : n ≤ 4096 → 64 < length (instances p.assertions (types_of o.vars)) → fault_of p n o ≡ Some (fault.TooManyInstances n)
  too_many_instances h q = few_here h ∙ ap (λ b. if b then Some (fault.TooManyInstances n) else nodes_fault n o) (over 64 _ q)

  few_instances : n ≤ 4096 → length (instances p.assertions (types_of o.vars)) ≤ 64 → fault_of p n o ≡ nodes_fault n o
  few_instances h q = few_here h ∙ ap (λ b. if b then Some (fault.TooManyInstances n) else nodes_fault n o) (within 64 _ q)

  pub too_many_nodes : n ≤ 4096 → length (instances p.assertions (types_of o.vars)) ≤ 64 → 4096 < formula_nodes o.hypotheses o.goal → fault_of p n o ≡ Some (fault.TooManyNodes n)
  too_many_nodes h q l = few_instances h q ∙ ap (λ b. if b then Some (fault.TooManyNodes n) else terms_fault n o) (over 4096 _ l)

  pub few_nodes : n ≤ 4096 → length (instances p.assertions (types_of o.vars)) ≤ 64 → HasFewNodes o.hypotheses o.goal → fault_of p n o ≡ terms_fault n o
  few_nodes h q l = few_instances h q ∙ ap (λ b. if b then Some (fault.TooManyNodes n) else terms_fault n o) (within 4096 _ l)

  pub few_terms : fault_of p n o ≡ terms_fault n o → HasFewTerms o.hypotheses o.goal → fault_of p n o ≡ None
  few_terms e l = e ∙ ap (λ b. if b then Some (fault.TooManyTerms n) else None) (within 512 _ l)

  pub too_many_terms : fault_of p n o ≡ terms_fault n o → 512 < length (formula_terms o.hypotheses o.goal) → fault_of p n o ≡ Some (fault.TooManyTerms n)
  too_many_terms e l = e ∙ ap (λ b. if b then Some (fault.TooManyTerms n) else None) (over 512 _ l)

  pub over_nodes : (hs : List Tree) (g : Tree) → n ≤ 4096 → length (instances p.assertions (types_of o.vars)) ≤ 64 → formula_nodes hs g ≡ formula_nodes o.hypotheses o.goal
      → (e : FormulaFault) → IsOverNodes n hs g e → IsFault p n o e
  over_nodes hs g h q same fault.Memory r = tt
  over_nodes hs g h q same fault.TooManyFormulas r = absurd r
  over_nodes hs g h q same (fault.TooManyInstances k) r = absurd r
  over_nodes hs g h q same (fault.TooManyNodes k) r = too_many_nodes h q (omega (arith, r.1, same)) ∙ ap (λ k. Some (fault.TooManyNodes k)) (sym r.0)
  over_nodes hs g h q same (fault.TooManyTerms k) r = absurd r

-- Room

module _ (p : Parts) (o : About) (k : ℕ) (ts : List Ty) (hyps : List Hypothesis) (goal : Tree) (typed : IsTypedFormula p (formula p o k ts (map hypothesis_tree hyps) goal)) where
  abbrev f : Formula
  f = formula p o k ts (map hypothesis_tree hyps) goal

  pub few_types : length (types_of f.vars) ≤ 65536
  few_types = omega (arith, typed.few_variables, length-map f.vars (λ (x : Formal). x.ty))

  pub few_over : length (types_with o ts) ≤ 65536
  few_over = omega (arith, few_types, ap length (types_are o ts))

  pub few_parts : length o.formals + length ts ≤ 65536
  few_parts = omega (arith, few_over, length-append (types_of o.formals) ts, length-map o.formals (λ (x : Formal). x.ty))

  all_below : All (λ e. IsBelow (2 ^ 31) e) f.hypotheses
  all_below = λ i d l. typed_below (signature p) (2 ^ 31) (types_of f.vars) _ ty.Boolean (omega (arith, few_types, typed.few_quantifiers i d l)) (typed.hypotheses i d l)

  abbrev moved : List Tree
  moved = map (settle (length (types_with o ts))) (map hypothesis_tree hyps)

  pub hyps_low : All (λ h. IsBelow (2 ^ 31) (tree h.e.now)) hyps
  hyps_low =
      let back = All-back (λ e. IsBelow (2 ^ 31) e) (known_from k (drop k (types_with o ts))) (moved ++ instances p.assertions (types_with o ts)) all_below in
      hypotheses_below (2 ^ 31) (length (types_with o ts)) hyps (All-front (λ e. IsBelow (2 ^ 31) e) moved (instances p.assertions (types_with o ts)) back)

  pub goal_low : IsBelow (2 ^ 31) goal
  goal_low = below_settled (2 ^ 31) (length (types_with o ts)) goal (typed_below (signature p) (2 ^ 31) (types_of f.vars) f.goal ty.Boolean (omega (arith, few_types, typed.few_in_goal)) typed.goal)

  module _ (n : ℕ) (few : n ≤ 4096) (types : List Ty) (same : types ≡ types_with o ts) (made : List Expr) (instanced : map tree made ≡ instances p.assertions types) (within64 : length made ≤ 64)
      (hs : List Tree) (all : hs ≡ known_from k (drop k types) ++ (map (settle (length types)) (map hypothesis_tree hyps) ++ map tree made)) where
    count64 : length (instances p.assertions (types_of f.vars)) ≤ 64
    count64 = omega (arith, within64, length-map made tree, ap length instanced, ap (λ x. length (instances p.assertions x)) (same ∙ sym (types_are o ts)))

    hypotheses_are : hs ≡ f.hypotheses
    hypotheses_are = all ∙ (λ i. known_from k (drop k (same i)) ++ (map (settle (length (same i))) (map hypothesis_tree hyps) ++ (instanced ∙ ap (instances p.assertions) same) i))

    same_nodes : formula_nodes hs goal ≡ formula_nodes f.hypotheses f.goal
    same_nodes = let x = ap (λ h. nodes_in (trees_of h)) hypotheses_are in let y = sym (nodes_settled (length (types_with o ts)) goal) in λ i. x i + y i

    pub goal_refused : (e : FormulaFault) → IsOverNodes n hs goal e → IsFault p n f e
    goal_refused e r = over_nodes p n f hs goal few count64 same_nodes e r

    pub drafted : (d : Draft) → map tree d.hyps.items ≡ hs → tree d.goal ≡ settle (length types) goal → HasFewNodes hs goal → IsDraft p n f d
    drafted d h g l =
        let fine : formula_nodes f.hypotheses f.goal ≤ 4096 = omega (arith, l, same_nodes) in
        record {
          hypotheses = h ∙ hypotheses_are;
          goal = g ∙ ap (λ x. settle (length x) goal) same;
          few_nodes = fine;
          left = few_nodes p n f few count64 fine;
        }

one_low : (p : Parts) (a : Assertion) → IsAssertion (signature p) a → IsBelow (2 ^ 31) (tree a.body)
one_low p a h = typed_below (signature p) (2 ^ 31) (types_of a.vars) (tree a.body) ty.Boolean (omega (arith, h.few_quantifiers, length-map a.vars (λ (x : Formal). x.ty))) h.body.typed

pub assertions_low : (p : Parts) → IsWellFormed p → All (λ a. IsBelow (2 ^ 31) (tree a.body)) p.assertions
assertions_low p well = λ i d l. one_low p _ (well.assertions i d l)

pub assertions_few : (p : Parts) → IsWellFormed p → All (λ (a : Assertion). length a.vars ≤ 8) p.assertions
assertions_few p well = λ i d l. omega (arith, (well.assertions i d l).few_quantifiers)

-- one formula is the list of it
first_one : (p : Parts) (m : ℕ) (o : Formula) (e : FormulaFault) → fault_of p (m + 1) o ≡ Some e → first_fault p (m + 1) (o ∷ []) ≡ Some e
first_one p m o e q = ap (λ x. or_else x None) q

pub one_refused : (p : Parts) (m : ℕ) (o : Formula) (e : FormulaFault) → IsFault p (m + 1) o e → IsRefused p m (o ∷ []) e
one_refused p m o fault.Memory q = tt
one_refused p m o fault.TooManyFormulas q = first_one p m o fault.TooManyFormulas q
one_refused p m o (fault.TooManyInstances k) q = first_one p m o (fault.TooManyInstances k) q
one_refused p m o (fault.TooManyNodes k) q = first_one p m o (fault.TooManyNodes k) q
one_refused p m o (fault.TooManyTerms k) q = first_one p m o (fault.TooManyTerms k) q

pub full_here : (p : Parts) (n : ℕ) (o : Formula) → 4096 < n → fault_of p n o ≡ Some fault.TooManyFormulas
full_here p n o h = ap (λ b. if b then Some fault.TooManyFormulas else instances_fault p n o) (over 4096 n h)

pub one_added : (p : Parts) (o : Formula) (old new : List Made) (made : Made) → formula_as made ≡ o → new ≡ old ++ made ∷ [] → fault_of p (length old + 1) o ≡ None → IsAdded p old new (o ∷ [])
one_added p o old new made same grown h = record {
  made = ap (map formula_as) grown ∙ map_push formula_as old made ∙ ap (λ x. map formula_as old ++ x ∷ []) same;
  within = ap (λ x. or_else x None) h;
}
