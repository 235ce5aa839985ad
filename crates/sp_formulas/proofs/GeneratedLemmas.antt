-- Adding formulas, one part after another.
use Rattle.std.proofs.Common.{◌≡◌, refl, sym, ◌∙◌, ap, subst, arith, true, false, ℕ, zero, suc, ◌+◌, ◌<◌, ◌≤◌, List, [], ◌∷◌, ◌++◌, map, length, take, drop, append_assoc}
use Rattle.std.specs.Prelude.{Option, Some, None, slice_get}
use Rattle.std.specs.List.{flat_map}
use Rattle.std.proofs.Common.{Result, Ok, Err}
use Rattle.std.specs.Prelude.{OnOk, IfErr}
use Rattle.std.proofs.lemmas.Result.{on_ok_weaker}
use Rattle.std.proofs.lemmas.List.{append-nil, map-append, length-map, length-append, take_all}
use Rattle.sp_values.specs.declared.value.Ty.{Ty}
use Rattle.sp_values.specs.declared.value.Op.{Op}
use Rattle.sp_values.specs.declared.value.Op.TheVariants as op
use Rattle.sp_core.specs.Parts.{Parts}
use Rattle.std.proofs.lemmas.List.Concat.{flat_map-append}
use Rattle.std.proofs.lemmas.Option.{none-some, same_Some, slice_get-map}
use Rattle.std.specs.Option.{option_map}
use Rattle.sp_core.specs.declared.expr.Expr.{Expr}
use Rattle.sp_core.specs.declared.expr.Expr.TheVariants as expr
use Rattle.sp_core.proofs.TreeLemmas.{tree-Look, tree-New, tree-Param}
use Rattle.sp_sequent.proofs.Weights.{weight, weights}
use Rattle.sp_sequent.proofs.Inserting.{around, take_one}
use Rattle.sp_core.specs.Tree.{tree, trees_of, Tree, Trees, Const, Var, Not, Two, If, Param, Look, Every, New, none, more}
use Rattle.sp_sequent.specs.declared.formula.Formula.{Formula as Made}
use Rattle.sp_formulas.specs.Typed.{AreTypedFormulas, IsTypedFormula}
use Rattle.sp_formulas.proofs.Alls.{All-back, All-front}
use Rattle.sp_formulas.specs.Formulas.{Spot, own_formula, Formula, formula, level_at, formula_as, reference_formula, reference_formulas}
use Rattle.sp_formulas.specs.Generated.{IsAdded, IsRefused, level_tree, spot_of}
use Rattle.sp_formulas.specs.Limits.{fault_of, first_fault, or_else}
use Rattle.sp_formulas.specs.References.{Reference, references, references_in, right_of, under, within}
use Rattle.sp_formulas.specs.Steps.{after, Part, own, parts_of, plain, plain_all, prefixed, references_of, right_part}
use Rattle.sp_formulas.specs.declared.fault.FormulaFault.{FormulaFault}
use Rattle.sp_formulas.specs.declared.fault.FormulaFault.TheVariants as fault
use Rattle.sp_formulas.specs.declared.spot.Place.{Place}

or_else-assoc : (a b c : Option FormulaFault) → or_else (or_else a b) c ≡ or_else a (or_else b c)
or_else-assoc None b c = refl
or_else-assoc (Some e) b c = refl

pub first_fault-append : (p : Parts) (n : ℕ) (as' bs : List Formula) → first_fault p n (as' ++ bs) ≡ or_else (first_fault p n as') (first_fault p (n + length as') bs)
first_fault-append p n [] bs = ap (λ m. first_fault p m bs) (omega arith)
first_fault-append p n (o ∷ os) bs =
    let m : n + 1 + length os ≡ n + suc (length os) = omega arith in
    ap (or_else (fault_of p n o)) (first_fault-append p (n + 1) os bs ∙ ap (λ m. or_else (first_fault p (n + 1) os) (first_fault p m bs)) m)
    ∙ sym (or_else-assoc (fault_of p n o) (first_fault p (n + 1) os) (first_fault p (n + suc (length os)) bs))

module _ (p : Parts) where
  pub added_none : (old : List Made) → IsAdded p old old []
  added_none old = record { made = sym (append-nil (map formula_as old)); within = refl }

  pub count_added : (old now : List Made) (fs : List Formula) → IsAdded p old now fs → length now ≡ length old + length fs
  count_added old now fs h = sym (length-map now formula_as) ∙ ap length h.made ∙ length-append (map formula_as old) fs ∙ ap (λ n. n + length fs) (length-map old formula_as)

  pub added_then : (old now new : List Made) (fs gs : List Formula) → IsAdded p old now fs → IsAdded p now new gs → IsAdded p old new (fs ++ gs)
  added_then old now new fs gs a b = record {
    made = b.made ∙ ap (λ x. x ++ gs) a.made ∙ append_assoc (map formula_as old) fs gs;
    within =
        let m : length old + 1 + length fs ≡ length now + 1 = omega (arith, count_added old now fs a) in
        first_fault-append p (length old + 1) fs gs ∙ ap (λ x. or_else x (first_fault p (length old + 1 + length fs) gs)) a.within ∙ ap (λ n. first_fault p n gs) m ∙ b.within;
  }

  some_first : (n : ℕ) (fs gs : List Formula) (e : FormulaFault) → first_fault p n fs ≡ Some e → first_fault p n (fs ++ gs) ≡ Some e
  some_first n fs gs e q = first_fault-append p n fs gs ∙ ap (λ x. or_else x (first_fault p (n + length fs) gs)) q

  pub refused_first : (n : ℕ) (fs gs : List Formula) (e : FormulaFault) → IsRefused p n fs e → IsRefused p n (fs ++ gs) e
  refused_first n fs gs fault.Memory q = tt
  refused_first n fs gs fault.TooManyFormulas q = some_first (n + 1) fs gs fault.TooManyFormulas q
  refused_first n fs gs (fault.TooManyInstances k) q = some_first (n + 1) fs gs (fault.TooManyInstances k) q
  refused_first n fs gs (fault.TooManyNodes k) q = some_first (n + 1) fs gs (fault.TooManyNodes k) q
  refused_first n fs gs (fault.TooManyTerms k) q = some_first (n + 1) fs gs (fault.TooManyTerms k) q

  some_later : (old now : List Made) (fs gs : List Formula) (e : FormulaFault) → IsAdded p old now fs → first_fault p (length now + 1) gs ≡ Some e → first_fault p (length old + 1) (fs ++ gs) ≡ Some e
  some_later old now fs gs e a q =
      let m : length old + 1 + length fs ≡ length now + 1 = omega (arith, count_added old now fs a) in
      first_fault-append p (length old + 1) fs gs ∙ ap (λ x. or_else x (first_fault p (length old + 1 + length fs) gs)) a.within ∙ ap (λ n. first_fault p n gs) m ∙ q

  pub refused_later : (old now : List Made) (fs gs : List Formula) (e : FormulaFault) → IsAdded p old now fs → IsRefused p (length now) gs e → IsRefused p (length old) (fs ++ gs) e
  refused_later old now fs gs fault.Memory a q = tt
  refused_later old now fs gs fault.TooManyFormulas a q = some_later old now fs gs fault.TooManyFormulas a q
  refused_later old now fs gs (fault.TooManyInstances k) a q = some_later old now fs gs (fault.TooManyInstances k) a q
  refused_later old now fs gs (fault.TooManyNodes k) a q = some_later old now fs gs (fault.TooManyNodes k) a q
  refused_later old now fs gs (fault.TooManyTerms k) a q = some_later old now fs gs (fault.TooManyTerms k) a q

-- References, part by part

map_plain : (rs : List Reference) → map (prefixed [] []) rs ≡ rs
map_plain [] = refl
map_plain (r ∷ rs) = ap (λ x. r ∷ x) (map_plain rs)

right_is : (o : Op) (a b : Tree) → right_of o a (references b) ≡ references_of (right_part o a b)
right_is op.And a b = refl
right_is op.Or a b = refl
right_is op.Same a b = sym (map_plain (references b))
right_is op.LevelLe a b = sym (map_plain (references b))
right_is op.IntLe a b = sym (map_plain (references b))
right_is op.IntLt a b = sym (map_plain (references b))
right_is op.Add a b = sym (map_plain (references b))
right_is op.Sub a b = sym (map_plain (references b))
right_is op.Mul a b = sym (map_plain (references b))
right_is op.Lub a b = sym (map_plain (references b))
right_is op.Glb a b = sym (map_plain (references b))

all_plain : (ds : Trees) → references_in ds ≡ flat_map references_of (plain_all ds)
all_plain none = refl
all_plain (more d ds) = λ i. sym (map_plain (references d)) i ++ all_plain ds i

pub references_are : (e : Tree) → references e ≡ flat_map references_of (parts_of e) ++ own e
references_are (Const v) = refl
references_are (Var k) = refl
references_are (Not a) = sym (append-nil (map (prefixed [] []) (references a) ++ []) ∙ append-nil (map (prefixed [] []) (references a)) ∙ map_plain (references a))
references_are (Two o a b) =
    (λ i. sym (map_plain (references a)) i ++ right_is o a b i)
    ∙ ap (λ x. references_of (plain a) ++ x) (sym (append-nil (references_of (right_part o a b))))
    ∙ sym (append-nil (references_of (plain a) ++ (references_of (right_part o a b) ++ [])))
references_are (If c a b) =
    (λ i. sym (map_plain (references c)) i ++ (map (under c) (references a) ++ sym (append-nil (map (under (Not c)) (references b))) i))
    ∙ sym (append-nil (references_of (plain c) ++ (map (under c) (references a) ++ (map (under (Not c)) (references b) ++ []))))
references_are (Param p ds) = all_plain ds ∙ sym (append-nil (flat_map references_of (plain_all ds)))
references_are (Look g ds) = ap (λ x. x ++ own (Look g ds)) (all_plain ds)
references_are (Every k t b) = sym (append-nil (map (within t) (references b) ++ []) ∙ append-nil (map (within t) (references b)))
references_are (New g ds) = ap (λ x. x ++ own (New g ds)) (all_plain ds)

-- the formulas of references in a part are those of the part's own references, with what stands before it
pub prefixed_formulas : (p : Parts) (o : Place) (bound ts : List Ty) (hyps cs : List Tree) (rs : List Reference)
    → reference_formulas p (spot_of o bound) hyps (map (prefixed ts cs) rs) ≡ reference_formulas p (spot_of o (bound ++ ts)) (hyps ++ cs) rs
prefixed_formulas p o bound ts hyps cs [] = refl
prefixed_formulas p o bound ts hyps cs (r ∷ rs) =
    let v = append_assoc bound ts r.vars in
    let h = append_assoc hyps cs r.path in
    let rest = prefixed_formulas p o bound ts hyps cs rs in
    λ i. formula p (spot_of o bound).about o.subject.known (sym v i) (sym h i) (Two op.LevelLe (level_at p r.fun r.args) (level_tree o.upper)) ∷ rest i

-- the parts of a call
pub plain_is : (ds : List Expr) → plain_all (trees_of (map tree ds)) ≡ map plain (map tree ds)
plain_is [] = refl
plain_is (d ∷ ds) = ap (λ x. plain (tree d) ∷ x) (plain_is ds)

pub parts-Param : (e : Expr) (p : ℕ) (ds : List Expr) → e ≡ expr.Param p ds → parts_of (tree e) ≡ map plain (map tree ds)
parts-Param e p ds i = ap (λ e. parts_of (tree e)) i ∙ ap parts_of (tree-Param p ds) ∙ plain_is ds

pub parts-Look : (e : Expr) (p : ℕ) (ds : List Expr) → e ≡ expr.Look p ds → parts_of (tree e) ≡ map plain (map tree ds)
parts-Look e p ds i = ap (λ e. parts_of (tree e)) i ∙ ap parts_of (tree-Look p ds) ∙ plain_is ds

pub parts-New : (e : Expr) (p : ℕ) (ds : List Expr) → e ≡ expr.New p ds → parts_of (tree e) ≡ map plain (map tree ds)
parts-New e p ds i = ap (λ e. parts_of (tree e)) i ∙ ap parts_of (tree-New p ds) ∙ plain_is ds

pub count_parts : (xs : List Part) (ds : List Expr) → xs ≡ map plain (map tree ds) → length xs ≡ length ds
count_parts xs ds q = ap length q ∙ length-map (map tree ds) plain ∙ length-map ds tree

pub part_at : (xs : List Part) (ds : List Expr) (k : ℕ) (d : Tree) (a : Part) → xs ≡ map plain (map tree ds) → slice_get (map tree ds) k ≡ Some d → a ≡ plain d → slice_get xs k ≡ Some a
part_at xs ds k d a q at is = ap (λ ys. slice_get ys k) q ∙ slice_get-map plain (map tree ds) k ∙ ap (option_map plain) at ∙ ap Some (sym is)

-- a part of an expression is lighter
light_plain : (ds : Trees) (k : ℕ) (a : Part) → slice_get (plain_all ds) k ≡ Some a → weight a.e < weights ds
light_plain none k a q = absurd (none-some a q)
light_plain (more d ds) zero a q = omega (arith, ap (λ (x : Part). weight x.e) (same_Some (plain d) a q))
light_plain (more d ds) (suc k) a q = omega (arith, light_plain ds k a q)

right_weight : (o : Op) (a b : Tree) → weight (right_part o a b).e ≡ weight b
right_weight op.And a b = refl
right_weight op.Or a b = refl
right_weight op.Same a b = refl
right_weight op.LevelLe a b = refl
right_weight op.IntLe a b = refl
right_weight op.IntLt a b = refl
right_weight op.Add a b = refl
right_weight op.Sub a b = refl
right_weight op.Mul a b = refl
right_weight op.Lub a b = refl
right_weight op.Glb a b = refl

pub light_child : (e : Tree) (k : ℕ) (a : Part) → slice_get (parts_of e) k ≡ Some a → weight a.e < weight e
light_child (Const v) k a q = absurd (none-some a q)
light_child (Var j) k a q = absurd (none-some a q)
light_child (Not b) zero a q = omega (arith, ap (λ (x : Part). weight x.e) (same_Some (plain b) a q))
light_child (Not b) (suc k) a q = absurd (none-some a q)
light_child (Two o b c) zero a q = omega (arith, ap (λ (x : Part). weight x.e) (same_Some (plain b) a q))
light_child (Two o b c) (suc zero) a q = omega (arith, ap (λ (x : Part). weight x.e) (same_Some (right_part o b c) a q), right_weight o b c)
light_child (Two o b c) (suc (suc k)) a q = absurd (none-some a q)
light_child (If b c d) zero a q = omega (arith, ap (λ (x : Part). weight x.e) (same_Some (plain b) a q))
light_child (If b c d) (suc zero) a q = omega (arith, ap (λ (x : Part). weight x.e) (same_Some (after b c) a q))
light_child (If b c d) (suc (suc zero)) a q = omega (arith, ap (λ (x : Part). weight x.e) (same_Some (after (Not b) d) a q))
light_child (If b c d) (suc (suc (suc k))) a q = absurd (none-some a q)
light_child (Param p ds) k a q = omega (arith, light_plain ds k a q)
light_child (Look g ds) k a q = omega (arith, light_plain ds k a q)
light_child (Every j t b) zero a q = let p : Part = record { vars = t ∷ []; path = []; e = b } in omega (arith, ap (λ (x : Part). weight x.e) (same_Some p a q))
light_child (Every j t b) (suc k) a q = absurd (none-some a q)
light_child (New g ds) k a q = omega (arith, light_plain ds k a q)

-- the formula of an expression that is itself a reference
module _ (p : Parts) (o : Spot) (hyps : List Tree) where
  own_one : (r : Reference) → r.vars ≡ [] → r.path ≡ [] → reference_formulas p o hyps (r ∷ []) ≡ own_formula p o hyps r.fun r.args ∷ []
  own_one r v c =
      let x = ap (λ ts. o.bound ++ ts) v ∙ append-nil o.bound in
      let y = ap (λ cs. hyps ++ cs) c ∙ append-nil hyps in
      λ i. formula p o.about o.known (x i) (y i) (Two op.LevelLe (level_at p r.fun r.args) o.upper) ∷ []

  pub own_Look : (e : Expr) (g : ℕ) (ds : List Expr) → e ≡ expr.Look g ds → reference_formulas p o hyps (own (tree e)) ≡ own_formula p o hyps g (trees_of (map tree ds)) ∷ []
  own_Look e g ds is = ap (λ e. reference_formulas p o hyps (own (tree e))) is ∙ ap (λ t. reference_formulas p o hyps (own t)) (tree-Look g ds) ∙ own_one (record { vars = []; path = []; is_new = false; fun = g; args = trees_of (map tree ds) }) refl refl

  pub own_New : (e : Expr) (g : ℕ) (ds : List Expr) → e ≡ expr.New g ds → reference_formulas p o hyps (own (tree e)) ≡ own_formula p o hyps g (trees_of (map tree ds)) ∷ []
  own_New e g ds is = ap (λ e. reference_formulas p o hyps (own (tree e))) is ∙ ap (λ t. reference_formulas p o hyps (own t)) (tree-New g ds) ∙ own_one (record { vars = []; path = []; is_new = true; fun = g; args = trees_of (map tree ds) }) refl refl

-- The walk: after its first k parts, the formulas of the references in them are there
abbrev pub Walked : Parts → Place → List Ty → List Tree → Tree → ℕ → List Formula
Walked p o bound hyps e k = reference_formulas p (spot_of o bound) hyps (flat_map references_of (take k (parts_of e)))

module _ (p : Parts) (o : Place) (bound longer : List Ty) (hyps more : List Tree) (e : Tree) (k : ℕ) (a : Part) (at : slice_get (parts_of e) k ≡ Some a) (variables : longer ≡ bound ++ a.vars) (conditions : more ≡ hyps ++ a.path) where
  part_formulas : reference_formulas p (spot_of o longer) more (references a.e) ≡ reference_formulas p (spot_of o bound) hyps (references_of a)
  part_formulas = (λ i. reference_formulas p (spot_of o (variables i)) (conditions i) (references a.e)) ∙ sym (prefixed_formulas p o bound a.vars hyps a.path (references a.e))

  next_is : Walked p o bound hyps e (k + 1) ≡ Walked p o bound hyps e k ++ reference_formulas p (spot_of o longer) more (references a.e)
  next_is =
      ap (λ xs. reference_formulas p (spot_of o bound) hyps (flat_map references_of xs)) (take_one (parts_of e) k a at)
      ∙ ap (reference_formulas p (spot_of o bound) hyps) (flat_map-append references_of (take k (parts_of e)) (a ∷ []) ∙ ap (λ x. flat_map references_of (take k (parts_of e)) ++ x) (append-nil (references_of a)))
      ∙ map-append (reference_formula p (spot_of o bound) hyps) (flat_map references_of (take k (parts_of e))) (references_of a)
      ∙ ap (λ x. Walked p o bound hyps e k ++ x) (sym part_formulas)

  pub walked_more : (old now new : List Made) → IsAdded p old now (Walked p o bound hyps e k) → IsAdded p now new (reference_formulas p (spot_of o longer) more (references a.e)) → IsAdded p old new (Walked p o bound hyps e (k + 1))
  walked_more old now new h g = subst (IsAdded p old new) (sym next_is) (added_then p old now new (Walked p o bound hyps e k) (reference_formulas p (spot_of o longer) more (references a.e)) h g)

  -- a limit that is exceeded in a part is the first one of all
  all_are : reference_formulas p (spot_of o bound) hyps (references e) ≡ Walked p o bound hyps e k ++ (reference_formulas p (spot_of o longer) more (references a.e) ++ reference_formulas p (spot_of o bound) hyps (flat_map references_of (drop (suc k) (parts_of e)) ++ own e))
  all_are =
      ap (reference_formulas p (spot_of o bound) hyps) (references_are e ∙ ap (λ xs. flat_map references_of xs ++ own e) (around (parts_of e) k a at)
      ∙ ap (λ x. x ++ own e) (flat_map-append references_of (take k (parts_of e)) (a ∷ drop (suc k) (parts_of e)))
      ∙ append_assoc (flat_map references_of (take k (parts_of e))) (references_of a ++ flat_map references_of (drop (suc k) (parts_of e))) (own e)
      ∙ ap (λ x. flat_map references_of (take k (parts_of e)) ++ x) (append_assoc (references_of a) (flat_map references_of (drop (suc k) (parts_of e))) (own e)))
      ∙ map-append (reference_formula p (spot_of o bound) hyps) (flat_map references_of (take k (parts_of e))) (references_of a ++ (flat_map references_of (drop (suc k) (parts_of e)) ++ own e))
      ∙ ap (λ x. Walked p o bound hyps e k ++ x) (map-append (reference_formula p (spot_of o bound) hyps) (references_of a) (flat_map references_of (drop (suc k) (parts_of e)) ++ own e))
      ∙ ap (λ x. Walked p o bound hyps e k ++ (x ++ reference_formulas p (spot_of o bound) hyps (flat_map references_of (drop (suc k) (parts_of e)) ++ own e))) (sym part_formulas)

  pub part_typed : AreTypedFormulas p (reference_formulas p (spot_of o bound) hyps (references e)) → AreTypedFormulas p (reference_formulas p (spot_of o longer) more (references a.e))
  part_typed h = All-front (IsTypedFormula p) (reference_formulas p (spot_of o longer) more (references a.e)) _ (All-back (IsTypedFormula p) (Walked p o bound hyps e k) _ (subst (AreTypedFormulas p) all_are h))

  pub walk_refused : (old now : List Made) (f : FormulaFault) → IsAdded p old now (Walked p o bound hyps e k) → IsRefused p (length now) (reference_formulas p (spot_of o longer) more (references a.e)) f → IsRefused p (length old) (reference_formulas p (spot_of o bound) hyps (references e)) f
  walk_refused old now f h r =
      subst (λ fs. IsRefused p (length old) fs f) (sym all_are) (refused_later p old now (Walked p o bound hyps e k) _ f h (refused_first p (length now) (reference_formulas p (spot_of o longer) more (references a.e)) _ f r))

module _ (p : Parts) (o : Place) (bound : List Ty) (hyps : List Tree) (e : Tree) (k : ℕ) (all : length (parts_of e) ≤ k) where
  whole : reference_formulas p (spot_of o bound) hyps (references e) ≡ Walked p o bound hyps e k ++ reference_formulas p (spot_of o bound) hyps (own e)
  whole =
      ap (reference_formulas p (spot_of o bound) hyps) (references_are e ∙ ap (λ xs. flat_map references_of xs ++ own e) (sym (take_all k (parts_of e) all)))
      ∙ map-append (reference_formula p (spot_of o bound) hyps) (flat_map references_of (take k (parts_of e))) (own e)

  pub own_typed : AreTypedFormulas p (reference_formulas p (spot_of o bound) hyps (references e)) → AreTypedFormulas p (reference_formulas p (spot_of o bound) hyps (own e))
  own_typed h = All-back (IsTypedFormula p) (Walked p o bound hyps e k) (reference_formulas p (spot_of o bound) hyps (own e)) (subst (AreTypedFormulas p) whole h)

  pub walked_all : (old now new : List Made) → IsAdded p old now (Walked p o bound hyps e k) → IsAdded p now new (reference_formulas p (spot_of o bound) hyps (own e)) → IsAdded p old new (reference_formulas p (spot_of o bound) hyps (references e))
  walked_all old now new h g = subst (IsAdded p old new) (sym whole) (added_then p old now new (Walked p o bound hyps e k) (reference_formulas p (spot_of o bound) hyps (own e)) h g)

  pub own_refused : (old now : List Made) (f : FormulaFault) → IsAdded p old now (Walked p o bound hyps e k) → IsRefused p (length now) (reference_formulas p (spot_of o bound) hyps (own e)) f → IsRefused p (length old) (reference_formulas p (spot_of o bound) hyps (references e)) f
  own_refused old now f h r = subst (λ fs. IsRefused p (length old) fs f) (sym whole) (refused_later p old now (Walked p o bound hyps e k) (reference_formulas p (spot_of o bound) hyps (own e)) f h r)

  pub walked_all_if : (old now new : List Made) → IsAdded p old now (Walked p o bound hyps e k) → (r : Result (Unit {0}) FormulaFault) → OnOk r (IsAdded p now new (reference_formulas p (spot_of o bound) hyps (own e))) → OnOk r (IsAdded p old new (reference_formulas p (spot_of o bound) hyps (references e)))
  walked_all_if old now new h r q = on_ok_weaker r (walked_all old now new h) q

  pub own_refused_if : (old now : List Made) → IsAdded p old now (Walked p o bound hyps e k) → (r : Result (Unit {0}) FormulaFault) → IfErr r (λ f. IsRefused p (length now) (reference_formulas p (spot_of o bound) hyps (own e)) f) → IfErr r (λ f. IsRefused p (length old) (reference_formulas p (spot_of o bound) hyps (references e)) f)
  own_refused_if old now h (Ok x) q = tt
  own_refused_if old now h (Err f) q = own_refused old now f h q
