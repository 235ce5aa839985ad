-- Which formulas stand in the list: those of each change, result, exception and derivation, and the agreements of each two
-- changes of one function.
use Rattle.std.proofs.Common.{◌≡◌, refl, sym, ◌∙◌, ap, subst, arith, ℕ, zero, suc, ◌+◌, ◌<◌, ◌==◌, List, [], ◌∷◌, ◌++◌, length, map, Some, inl, inr, ◌⊎◌}
use Rattle.std.specs.Prelude.{if◌then◌else◌, slice_get}
use Rattle.std.specs.List.{Contains, flat_map}
use Rattle.std.proofs.lemmas.Bool.Decides.{Decides-eqb}
use Rattle.std.proofs.lemmas.List.{map-append}
use Rattle.std.proofs.lemmas.List.Elements.{Contains-append_left, Contains-append_right}
use Rattle.sp_core.specs.declared.function.Function.{Function}
use Rattle.sp_core.specs.Effects.{EffectTree, EffectTrees, GuardedChange, GuardedResult, change_under, change_within, changes, changes_in, result_under, results, results_in}
use Rattle.sp_core.specs.Effects as effect
use Rattle.sp_core.specs.Parts.{Parts}
use Rattle.sp_core.specs.Tree.{Tree, Trees, Not, Two}
use Rattle.sp_values.specs.declared.value.Op.TheVariants as op
use Rattle.sp_values.specs.declared.value.Ty.{Ty}
use Rattle.sp_core.proofs.Elements.{Contains-cons, Contains-first, Contains-nil}
use Rattle.sp_sequent.specs.declared.formula.FormulaKind.TheVariants as is
use Rattle.sp_formulas.specs.Formulas.{Formula, about, agreement_of, agreements, denied, equal_all, formula, formulas_from, function_formulas, guards_of, item_formulas}
use Rattle.sp_formulas.specs.Items.{Answer, Change, Deed, Item, item_under, item_within, items, items_in}
use Rattle.sp_formulas.specs.Moves.{raise, raise_all}
use Rattle.sp_core.proofs.Elements.{Contains-map}

contains_either : {A : Type 0} (xs ys : List A) (x : A) → Contains (xs ++ ys) x → Contains xs x ⊎ Contains ys x
contains_either [] ys x c = inr c
contains_either (z ∷ xs) ys x c = elim (Contains-cons z (xs ++ ys) x c) [
  | inl e ↦ inl (subst (Contains (z ∷ xs)) e (Contains-first z xs))
  | inr d ↦ elim (contains_either xs ys x d) [ inl l ↦ inl (Contains-append_right (z ∷ []) xs x l) | inr r ↦ inr r ]
]

contains_mapped : {A B : Type 0} (f : A → B) (xs : List A) (y : B) → Contains (map f xs) y → (x : A) × Contains xs x × (f x ≡ y)
contains_mapped f [] y c = absurd (Contains-nil y c)
contains_mapped f (x ∷ xs) y c = elim (Contains-cons (f x) (map f xs) y c) [
  | inl e ↦ (x, Contains-first x xs, e)
  | inr d ↦ let r = contains_mapped f xs y d in (r.0, Contains-append_right (x ∷ []) xs r.0 r.1, r.2)
]

contains_flat : {A B : Type 0} (f : A → List B) (xs : List A) (x : A) (y : B) → Contains xs x → Contains (f x) y → Contains (flat_map f xs) y
contains_flat f [] x y c d = absurd (Contains-nil x c)
contains_flat f (z ∷ xs) x y c d = elim (Contains-cons z xs x c) [
  | inl e ↦ Contains-append_left (f z) (flat_map f xs) y (subst (λ x. Contains (f x) y) (sym e) d)
  | inr k ↦ Contains-append_right (f z) (flat_map f xs) y (contains_flat f xs x y k d)
]

-- the formulas of a function stand in the list
pub in_formulas : (p : Parts) (k : ℕ) (fs : List Function) (g : ℕ) (f : Function) → slice_get fs g ≡ Some f → (q : Formula) → Contains (function_formulas p (k + g) f) q → Contains (formulas_from p k fs) q
in_formulas p k [] g f is q c = cc
in_formulas p k (x ∷ fs) zero f is q c =
    let e : x ≡ f = cc in
    let z : k + 0 ≡ k = omega arith in
    Contains-append_left (function_formulas p k x) (formulas_from p (k + 1) fs) q (subst (λ y. Contains (function_formulas p k y) q) (sym e) (subst (λ j. Contains (function_formulas p j f) q) z c))
in_formulas p k (x ∷ fs) (suc g) f is q c =
    let z : k + suc g ≡ k + 1 + g = omega arith in
    Contains-append_right (function_formulas p k x) (formulas_from p (k + 1) fs) q (in_formulas p (k + 1) fs g f is q (subst (λ j. Contains (function_formulas p j f) q) z c))

-- Items

abbrev pub change_item : GuardedChange → Item
change_item a = record { vars = a.vars; guards = a.guards; deed = Change a.fun a.args a.value }

abbrev pub result_item : GuardedResult → Item
result_item r = record { vars = []; guards = r.guards; deed = Answer r.value }

mutual
  result_listed : (w : EffectTree) (r : GuardedResult) → Contains (results w) r → Contains (items w) (result_item r)
  result_listed (effect.Change g ds e) r c = absurd (Contains-nil r c)
  result_listed (effect.Answer e) r c = elim (Contains-cons (record { guards = []; value = e }) [] r c) [
    | inl q ↦ subst (λ r. Contains (items (effect.Answer e)) (result_item r)) q (Contains-first (result_item (record { guards = []; value = e })) [])
    | inr d ↦ absurd (Contains-nil r d)
  ]
  result_listed (effect.If c as' bs) r k = elim (contains_either (map (result_under c) (results_in as')) (map (result_under (Not c)) (results_in bs)) r k) [
    | inl l ↦ Contains-append_left (map (item_under c) (items_in as')) (map (item_under (Not c)) (items_in bs)) (result_item r) (below c as' r l (λ x d. all_results_listed as' x d))
    | inr l ↦ Contains-append_right (map (item_under c) (items_in as')) (map (item_under (Not c)) (items_in bs)) (result_item r) (below (Not c) bs r l (λ x d. all_results_listed bs x d))
  ]
    where
      below : (c : Tree) (ws : EffectTrees) (r : GuardedResult) → Contains (map (result_under c) (results_in ws)) r → ((x : GuardedResult) → Contains (results_in ws) x → Contains (items_in ws) (result_item x)) → Contains (map (item_under c) (items_in ws)) (result_item r)
      below c ws r l next =
          let m = contains_mapped (result_under c) (results_in ws) r l in
          subst (λ r. Contains (map (item_under c) (items_in ws)) (result_item r)) m.2 (Contains-map (item_under c) (items_in ws) (result_item m.0) (next m.0 m.1))
  result_listed (effect.Every k t ws) r c = absurd (Contains-nil r c)

  pub all_results_listed : (ws : EffectTrees) (r : GuardedResult) → Contains (results_in ws) r → Contains (items_in ws) (result_item r)
  all_results_listed effect.none r c = absurd (Contains-nil r c)
  all_results_listed (effect.more w ws) r c = elim (contains_either (results w) (results_in ws) r c) [
    | inl l ↦ Contains-append_left (items w) (items_in ws) (result_item r) (result_listed w r l)
    | inr l ↦ Contains-append_right (items w) (items_in ws) (result_item r) (all_results_listed ws r l)
  ]

-- the changes among items, in order
abbrev change_of : Item → Deed → List GuardedChange
change_of i (Change g ds e) = record { vars = i.vars; guards = i.guards; fun = g; args = ds; value = e } ∷ []
change_of i (Answer e) = []

abbrev changes_of : List Item → List GuardedChange
changes_of [] = []
changes_of (i ∷ is') = change_of i i.deed ++ changes_of is'

append_list : {A : Type 0} (xs ys zs : List A) → (xs ++ ys) ++ zs ≡ xs ++ (ys ++ zs)
append_list [] ys zs = refl
append_list (x ∷ xs) ys zs = ap (λ us. x ∷ us) (append_list xs ys zs)

changes_of-append : (is' js : List Item) → changes_of (is' ++ js) ≡ changes_of is' ++ changes_of js
changes_of-append [] js = refl
changes_of-append (i ∷ is') js = ap (λ xs. change_of i i.deed ++ xs) (changes_of-append is' js) ∙ sym (append_list (change_of i i.deed) (changes_of is') (changes_of js))

changes_of-under : (c : Tree) (is' : List Item) → changes_of (map (item_under c) is') ≡ map (change_under c) (changes_of is')
changes_of-under c [] = refl
changes_of-under c (i ∷ is') = (λ j. by i.deed j ++ changes_of-under c is' j) ∙ sym (map-append (change_under c) (change_of i i.deed) (changes_of is'))
  where
    by : (d : Deed) → change_of (item_under c i) d ≡ map (change_under c) (change_of i d)
    by (Change g ds e) = refl
    by (Answer e) = refl

changes_of-within : (t : Ty) (is' : List Item) → changes_of (map (item_within t) is') ≡ map (change_within t) (changes_of is')
changes_of-within t [] = refl
changes_of-within t (i ∷ is') = (λ j. by i.deed j ++ changes_of-within t is' j) ∙ sym (map-append (change_within t) (change_of i i.deed) (changes_of is'))
  where
    by : (d : Deed) → change_of (item_within t i) d ≡ map (change_within t) (change_of i d)
    by (Change g ds e) = refl
    by (Answer e) = refl

mutual
  item_changes : (w : EffectTree) → changes_of (items w) ≡ changes w
  item_changes (effect.Change g ds e) = refl
  item_changes (effect.Answer e) = refl
  item_changes (effect.If c as' bs) =
      changes_of-append (map (item_under c) (items_in as')) (map (item_under (Not c)) (items_in bs))
      ∙ (λ j. (changes_of-under c (items_in as') ∙ ap (map (change_under c)) (all_item_changes as')) j ++ (changes_of-under (Not c) (items_in bs) ∙ ap (map (change_under (Not c))) (all_item_changes bs)) j)
  item_changes (effect.Every k t ws) = changes_of-within t (items_in ws) ∙ ap (map (change_within t)) (all_item_changes ws)

  all_item_changes : (ws : EffectTrees) → changes_of (items_in ws) ≡ changes_in ws
  all_item_changes effect.none = refl
  all_item_changes (effect.more w ws) = changes_of-append (items w) (items_in ws) ∙ (λ j. item_changes w j ++ all_item_changes ws j)

of_changes : (is' : List Item) (a : GuardedChange) → Contains (changes_of is') a → Contains is' (change_item a)
of_changes [] a c = absurd (Contains-nil a c)
of_changes (i ∷ is') a c = by i.deed refl c (of_changes is' a)
  where
    by : (d : Deed) → i.deed ≡ d → Contains (change_of i d ++ changes_of is') a → (Contains (changes_of is') a → Contains is' (change_item a)) → Contains (i ∷ is') (change_item a)
    by (Answer e) q c next = Contains-append_right (i ∷ []) is' (change_item a) (next c)
    by (Change g ds e) q c next = elim (Contains-cons (record { vars = i.vars; guards = i.guards; fun = g; args = ds; value = e }) (changes_of is') a c) [
      | inl h ↦
          let same : i ≡ change_item a = ap (λ d. record { vars = i.vars; guards = i.guards; deed = d }) q ∙ ap change_item h in
          subst (Contains (i ∷ is')) same (Contains-first i is')
      | inr k ↦ Contains-append_right (i ∷ []) is' (change_item a) (next k)
    ]

-- a change of effects is one of their items
pub change_listed : (ws : EffectTrees) (a : GuardedChange) → Contains (changes_in ws) a → Contains (items_in ws) (change_item a)
change_listed ws a c = of_changes (items_in ws) a (subst (λ as'. Contains as' a) (sym (all_item_changes ws)) c)

-- the formulas of an item stand among those of all items
pub of_item : (p : Parts) (g : ℕ) (f : Function) (is' : List Item) (i : Item) (q : Formula) → Contains is' i → Contains (item_formulas p g f i) q → Contains (flat_map (item_formulas p g f) is') q
of_item p g f is' i q c d = contains_flat (item_formulas p g f) is' i q c d

-- Agreements

abbrev pub agreement : Parts → ℕ → Function → GuardedChange → GuardedChange → Formula
agreement p g f a b =
    formula p (about is.Agreement g f) 0 (a.vars ++ b.vars)
    (denied f ++ (a.guards ++ (map (raise (length f.formals) (length a.vars)) (guards_of f (change_item b)) ++ equal_all a.args (raise_all (length f.formals) (length a.vars) b.args))))
    (Two op.Same a.value (raise (length f.formals) (length a.vars) b.value))

chosen : (h k : ℕ) (o : Formula) → h ≡ k → Contains (if h == k then o ∷ [] else []) o
chosen h k o e = subst (λ v. Contains (if v then o ∷ [] else []) o) (sym ((Decides-eqb h k).1 e)) (Contains-first o [])

later : (p : Parts) (g : ℕ) (f : Function) (i : Item) (h : ℕ) (ds : Trees) (e : Tree) (js : List Item) (k : ℕ) (b : GuardedChange) → slice_get (changes_of js) k ≡ Some b → h ≡ b.fun
    → Contains (flat_map (λ j. agreement_of p g f i j (Change h ds e) j.deed) js) (agreement p g f (record { vars = i.vars; guards = i.guards; fun = h; args = ds; value = e }) b)
later p g f i h ds e [] k b there same = cc
later p g f i h ds e (j ∷ js) k b there same = by j.deed k there (later p g f i h ds e js)
  where
    a : GuardedChange
    a = record { vars = i.vars; guards = i.guards; fun = h; args = ds; value = e }

    by : (d : Deed) (k : ℕ) → slice_get (change_of j d ++ changes_of js) k ≡ Some b
        → ((k : ℕ) (b : GuardedChange) → slice_get (changes_of js) k ≡ Some b → h ≡ b.fun → Contains (flat_map (λ j. agreement_of p g f i j (Change h ds e) j.deed) js) (agreement p g f (record { vars = i.vars; guards = i.guards; fun = h; args = ds; value = e }) b))
        → Contains (agreement_of p g f i j (Change h ds e) d ++ flat_map (λ j. agreement_of p g f i j (Change h ds e) j.deed) js) (agreement p g f (record { vars = i.vars; guards = i.guards; fun = h; args = ds; value = e }) b)
    by (Answer x) k there next = next k b there same
    by (Change y es x) zero there next =
        let c : GuardedChange = record { vars = j.vars; guards = j.guards; fun = y; args = es; value = x } in
        let one : c ≡ b = cc in
        let eq : h ≡ y = same ∙ ap (λ (b : GuardedChange). b.fun) (sym one) in
        subst (λ b. Contains (agreement_of p g f i j (Change h ds e) (Change y es x) ++ flat_map (λ j. agreement_of p g f i j (Change h ds e) j.deed) js) (agreement p g f (record { vars = i.vars; guards = i.guards; fun = h; args = ds; value = e }) b)) one
        (Contains-append_left (agreement_of p g f i j (Change h ds e) (Change y es x)) (flat_map (λ j. agreement_of p g f i j (Change h ds e) j.deed) js) (agreement p g f (record { vars = i.vars; guards = i.guards; fun = h; args = ds; value = e }) c)
        (chosen h y (agreement p g f (record { vars = i.vars; guards = i.guards; fun = h; args = ds; value = e }) c) eq))
    by (Change y es x) (suc k) there next =
        Contains-append_right (agreement_of p g f i j (Change h ds e) (Change y es x)) (flat_map (λ j. agreement_of p g f i j (Change h ds e) j.deed) js) (agreement p g f (record { vars = i.vars; guards = i.guards; fun = h; args = ds; value = e }) b) (next k b there same)

agreed : (p : Parts) (g : ℕ) (f : Function) (is' : List Item) (j k : ℕ) (a b : GuardedChange) → j < k → slice_get (changes_of is') j ≡ Some a → slice_get (changes_of is') k ≡ Some b → a.fun ≡ b.fun → Contains (agreements p g f is') (agreement p g f a b)
agreed p g f [] j k a b l at_a at_b same = cc
agreed p g f (i ∷ is') j k a b l at_a at_b same = by i.deed j k l at_a at_b (agreed p g f is')
  where
    by : (d : Deed) (j k : ℕ) → j < k → slice_get (change_of i d ++ changes_of is') j ≡ Some a → slice_get (change_of i d ++ changes_of is') k ≡ Some b
        → ((j k : ℕ) (a b : GuardedChange) → j < k → slice_get (changes_of is') j ≡ Some a → slice_get (changes_of is') k ≡ Some b → a.fun ≡ b.fun → Contains (agreements p g f is') (agreement p g f a b))
        → Contains (flat_map (λ j. agreement_of p g f i j d j.deed) is' ++ agreements p g f is') (agreement p g f a b)
    by (Answer x) j k l at_a at_b next = Contains-append_right (flat_map (λ j. agreement_of p g f i j (Answer x) j.deed) is') (agreements p g f is') (agreement p g f a b) (next j k a b l at_a at_b same)
    by (Change h ds e) zero zero l at_a at_b next = absurd (omega (arith, l))
    by (Change h ds e) zero (suc k) l at_a at_b next =
        let c : GuardedChange = record { vars = i.vars; guards = i.guards; fun = h; args = ds; value = e } in
        let one : c ≡ a = cc in
        let eq : h ≡ b.fun = ap (λ (b : GuardedChange). b.fun) one ∙ same in
        subst (λ a. Contains (flat_map (λ j. agreement_of p g f i j (Change h ds e) j.deed) is' ++ agreements p g f is') (agreement p g f a b)) one
        (Contains-append_left (flat_map (λ j. agreement_of p g f i j (Change h ds e) j.deed) is') (agreements p g f is') (agreement p g f c b) (later p g f i h ds e is' k b at_b eq))
    by (Change h ds e) (suc j) zero l at_a at_b next = absurd (omega (arith, l))
    by (Change h ds e) (suc j) (suc k) l at_a at_b next =
        Contains-append_right (flat_map (λ j. agreement_of p g f i j (Change h ds e) j.deed) is') (agreements p g f is') (agreement p g f a b) (next j k a b (omega (arith, l)) at_a at_b same)

-- the agreement of each two changes of one function stands in the list
pub agreement_listed : (p : Parts) (g : ℕ) (f : Function) (ws : EffectTrees) (j k : ℕ) (a b : GuardedChange) → j < k → slice_get (changes_in ws) j ≡ Some a → slice_get (changes_in ws) k ≡ Some b → a.fun ≡ b.fun
    → Contains (agreements p g f (items_in ws)) (agreement p g f a b)
agreement_listed p g f ws j k a b l at_a at_b same =
    let e = all_item_changes ws in
    agreed p g f (items_in ws) j k a b l (ap (λ as'. slice_get as' j) e ∙ at_a) (ap (λ as'. slice_get as' k) e ∙ at_b) same
