-- The parts of a ready expression are ready, and their values are typed.
use Rattle.std.proofs.Common.{◌≡◌, refl, sym, ◌∙◌, ap, subst, arith, ℕ, zero, suc, ◌+◌, ◌-◌, ◌<◌, ◌≤◌, Bool, true, false, ◌&&◌, List, [], ◌∷◌, ◌++◌, length, length-append, map, take, get_or, Some}
use Rattle.std.specs.Prelude.{IsTrue, slice_get}
use Rattle.std.specs.List.{All, list_all, range_with_len}
use Rattle.std.proofs.lemmas.List.{length-map, length-take-le}
use Rattle.std.proofs.lemmas.List.Elements.{All-head, All-tail}
use Rattle.std.proofs.Math.Seq.{take-length}
use Rattle.std.proofs.lemmas.Option.{slice_get_within}
use Rattle.sp_values.specs.declared.value.Value.{Value}
use Rattle.sp_values.specs.declared.value.Value.TheVariants as value
use Rattle.sp_values.specs.declared.value.Ty.{Ty}
use Rattle.sp_values.specs.declared.value.Ty.TheVariants as ty
use Rattle.sp_values.specs.declared.value.Op.{Op}
use Rattle.sp_values.specs.declared.value.Op.TheVariants as op
use Rattle.sp_values.specs.Arithmetic.{IsInteger}
use Rattle.sp_values.specs.Domains.{Sizes, are_values, is_value, proper_values}
use Rattle.sp_core.specs.declared.expr.Expr.{Expr}
use Rattle.sp_core.specs.declared.expr.Expr.TheVariants as expr
use Rattle.sp_core.specs.declared.function.Formal.{Formal}
use Rattle.sp_core.specs.declared.function.Function.{Function}
use Rattle.sp_core.specs.Instances.{filling_of, machine_of}
use Rattle.sp_core.specs.Machine.{IsPlace, types_of}
use Rattle.sp_core.specs.Measures.{LookAt, LooksAt, quantifiers_in}
use Rattle.sp_core.specs.Parts.{signature}
use Rattle.sp_core.specs.States.{entry_of}
use Rattle.sp_core.specs.Tree.{Tree, Trees, Two, Param, Look, Every, New, Var, count, none, more, tree, trees_of}
use Rattle.sp_core.specs.Typing.{HasType, HaveTypes, MakesType, read_type}
use Rattle.sp_core.specs.Values.{is_true}
use Rattle.sp_core.specs.WellFormed.{IsParam}
use Rattle.sp_core.proofs.Bindings.{are_values-append, length_values}
use Rattle.sp_core.proofs.EffectsTyped.{initial_of}
use Rattle.sp_core.proofs.Types.{both_true, level_below, level_typed, look_typed, member_typed, value_typed, values_typed}
use Rattle.sp_eval.specs.Conditions.{IsRead}
use Rattle.sp_eval.specs.Settings.{AreReady, IsBody, IsOperand, IsRankedBelow, IsReady, IsSetting, Setting, new_reads, old_reads, population, proper_at, sizes, tree_value, tree_values}
use Rattle.sp_core.proofs.TreeLemmas.{tree-Var, tree-Two, tree-Param, tree-Look, tree-Every, tree-New}
use Rattle.sp_eval.proofs.Nodes.{count-trees}

integer_operand : (sz : Sizes) (v : Value) → is_value sz ty.Integer v ≡ true → IsInteger v
integer_operand sz (value.Int n) e = tt
integer_operand sz value.Unknown e = tt
integer_operand sz (value.Truth b) e = cc
integer_operand sz (value.Level l) e = cc
integer_operand sz (value.Member k m) e = cc

operand : (sz : Sizes) (o : Op) (u t : Ty) (v : Value) → MakesType o u t → is_value sz u v ≡ true → IsOperand sz.levels o v
operand sz op.And u t v h x = tt
operand sz op.Or u t v h x = tt
operand sz op.Same u t v h x = tt
operand sz op.LevelLe u t v h x = level_below sz v (subst (λ u. is_value sz u v ≡ true) h.0 x)
operand sz op.IntLe u t v h x = integer_operand sz v (subst (λ u. is_value sz u v ≡ true) h.0 x)
operand sz op.IntLt u t v h x = integer_operand sz v (subst (λ u. is_value sz u v ≡ true) h.0 x)
operand sz op.Add u t v h x = integer_operand sz v (subst (λ u. is_value sz u v ≡ true) h.0 x)
operand sz op.Sub u t v h x = integer_operand sz v (subst (λ u. is_value sz u v ≡ true) h.0 x)
operand sz op.Mul u t v h x = integer_operand sz v (subst (λ u. is_value sz u v ≡ true) h.0 x)
operand sz op.Lub u t v h x = level_below sz v (subst (λ u. is_value sz u v ≡ true) h.0 x)
operand sz op.Glb u t v h x = level_below sz v (subst (λ u. is_value sz u v ≡ true) h.0 x)

pub at_index : {X : Type 0} (P : X → Type 0) (xs : List X) (k : ℕ) (v : X) → All P xs → slice_get xs k ≡ Some v → P v
at_index P [] k v a e = cc
at_index P (u ∷ xs) zero v a e = let q : u ≡ v = cc in subst P q (All-head P u xs a)
at_index P (u ∷ xs) (suc k) v a e = at_index P xs k v (All-tail P u xs a) e

pub proper_at_typed : (sz : Sizes) (t : Ty) (j : ℕ) → j < population sz t → is_value sz t (proper_at t j) ≡ true
proper_at_typed sz ty.Boolean j l = refl
proper_at_typed sz ty.Integer j l = absurd (omega (arith, l))
proper_at_typed sz ty.Level j l = level_typed sz j l
proper_at_typed sz (ty.Member k) j l = member_typed sz k j l

-- the proper values in order
pub proper_values_at : (sz : Sizes) (t : Ty) → map (proper_at t) (range_with_len 0 (population sz t)) ≡ proper_values sz t
proper_values_at sz ty.Boolean = refl
proper_values_at sz ty.Integer = refl
proper_values_at sz ty.Level = refl
proper_values_at sz (ty.Member k) = refl

holds_all : (f : Value → Bool) (g : ℕ → Value) (from n : ℕ) → ((j : ℕ) → from ≤ j → j < from + n → f (g j) ≡ true) → list_all f (map g (range_with_len from n)) ≡ true
holds_all f g from zero h = refl
holds_all f g from (suc n) h =
    both_true (f (g from)) (list_all f (map g (range_with_len (from + 1) n))) (h from (omega arith) (omega arith)) (holds_all f g (from + 1) n (λ j a b. h j (omega (arith, a)) (omega (arith, b))))

one_false : (a b : Bool) → a ≡ false → (a && b) ≡ false
one_false true b e = cc
one_false false b e = refl

two_false : (a b : Bool) → b ≡ false → (a && b) ≡ false
two_false true b e = e
two_false false b e = refl

fails_one : (f : Value → Bool) (g : ℕ → Value) (from n j : ℕ) → from ≤ j → j < from + n → f (g j) ≡ false → list_all f (map g (range_with_len from n)) ≡ false
fails_one f g from zero j a b e = absurd (omega (arith, a, b))
fails_one f g from (suc n) j a b e = by (j - from) refl (λ l. fails_one f g (from + 1) n j l (omega (arith, b)) e)
  where
    by : (d : ℕ) → j - from ≡ d → (from + 1 ≤ j → list_all f (map g (range_with_len (from + 1) n)) ≡ false) → (f (g from) && list_all f (map g (range_with_len (from + 1) n))) ≡ false
    by zero q later = let same : from ≡ j = omega (arith, q, a) in one_false (f (g from)) (list_all f (map g (range_with_len (from + 1) n))) (ap (λ j. f (g j)) same ∙ e)
    by (suc d) q later = two_false (f (g from)) (list_all f (map g (range_with_len (from + 1) n))) (later (omega (arith, q)))

-- a test holds of all proper values, or fails at one of them
pub holds_each : (sz : Sizes) (t : Ty) (f : Value → Bool) (n : ℕ) → n ≡ population sz t → ((j : ℕ) → j < n → f (proper_at t j) ≡ true) → true ≡ list_all f (proper_values sz t)
holds_each sz t f n e h = sym (ap (list_all f) (sym (proper_values_at sz t)) ∙ holds_all f (proper_at t) 0 (population sz t) (λ j a b. h j (omega (arith, b, e))))

pub fails_at : (sz : Sizes) (t : Ty) (f : Value → Bool) (n : ℕ) → n ≡ population sz t → (j : ℕ) → j < n → f (proper_at t j) ≡ false → false ≡ list_all f (proper_values sz t)
fails_at sz t f n e j l h = sym (ap (list_all f) (sym (proper_values_at sz t)) ∙ fails_one f (proper_at t) 0 (population sz t) j (omega arith) (omega (arith, l, e)) h)

count-have : (s : Setting) (xs ts : List Ty) (ds : Trees) → HaveTypes (signature s.parts) xs ds ts → count ds ≡ length ts
count-have s xs [] none h = refl
count-have s xs (t ∷ ts) none h = absurd h
count-have s xs [] (more d ds) h = absurd h
count-have s xs (t ∷ ts) (more d ds) h = ap suc (count-have s xs ts ds h.1)

module _ (s : Setting) (n : ℕ) (x : List Value) where
  abbrev Ready : Tree → Type 0
  Ready e = IsReady s n x e

  args_at : (d : List Expr → Expr) (t : Trees → Tree) → ((ds : List Expr) → tree (d ds) ≡ t (trees_of (map tree ds))) → (e : Expr) (ds as' : List Expr) → Ready (tree e) → e ≡ d ds → as' ≡ ds → Ready (t (trees_of (map tree as')))
  args_at d t law e ds as' h i j = subst Ready (ap tree (i ∙ ap d (sym j)) ∙ law as') h

  -- a variable is one of the environment
  pub variable_within : (k : ℕ) (e : Expr) → Ready (tree e) → e ≡ expr.Var k → k < length x
  variable_within k e h i =
      let r : Ready (Var k) = subst Ready (ap tree i ∙ tree-Var k) h in
      let l : k < length r.typed.0 = slice_get_within r.typed.0 k r.typed.1 r.typed.2.typed in
      omega (arith, l, length_values (sizes s) r.typed.0 x r.typed.2.values)

  -- the value of the body of a quantifier, at the values of the environment and one more
  pub every_value : (k : ℕ) (t : Ty) (e b d : Expr) → Ready (tree e) → e ≡ expr.Every k t b → d ≡ b →
      (r : Bool) → r ≡ list_all (λ c. is_true (tree_value s (x ++ c ∷ []) (tree d))) (proper_values (sizes s) t) → value.Truth r ≡ tree_value s x (tree e)
  every_value k t e b d h i j r q =
      let is_every : tree e ≡ Every k t (tree d) = ap tree (i ∙ ap (λ b. expr.Every k t b) (sym j)) ∙ tree-Every k t d in
      let ready : Ready (Every k t (tree d)) = subst Ready is_every h in
      let number : k ≡ length x = ready.typed.2.typed.1 ∙ sym (length_values (sizes s) ready.typed.0 x ready.typed.2.values) in
      let whole : take k x ≡ x = ap (λ m. take m x) number ∙ take-length x in
      ap value.Truth (q ∙ ap (λ y. list_all (λ c. is_true (tree_value s (y ++ c ∷ []) (tree d))) (proper_values (sizes s) t)) (sym whole)) ∙ sym (ap (tree_value s x) is_every)

  -- the body of a quantifier is ready at each proper value
  pub ready_body : (t : Ty) (b : Tree) (j : ℕ) (v : Value) → IsBody s n x t b → j < population (sizes s) t → v ≡ proper_at t j → (y : List Value) → y ≡ x ++ v ∷ [] → IsReady s n y b
  ready_body t b j v h l i y q =
      let typed : is_value (sizes s) t v ≡ true = subst (λ v. is_value (sizes s) t v ≡ true) (sym i) (proper_at_typed (sizes s) t j l) in
      let values : are_values (sizes s) (h.0 ++ t ∷ []) (x ++ v ∷ []) ≡ true = are_values-append (sizes s) h.0 (t ∷ []) x (v ∷ []) h.1.values (both_true (is_value (sizes s) t v) true typed refl) in
      let long : length (x ++ v ∷ []) ≡ length x + 1 = length-append x (v ∷ []) in
      subst (λ y. IsReady s n y b) (sym q) (record { typed = (h.0 ++ t ∷ [], ty.Boolean, record { values = values; typed = h.1.typed; room = omega (arith, h.1.room, long) }); reads = h.1.reads })

  module _ (fine : IsSetting s) where
    old_typed : (g : ℕ) (f : Function) (t : Ty) (v : List Value) → IsRankedBelow s n g → slice_get s.parts.functions g ≡ Some f → read_type f.kind ≡ Some t → IsTrue (are_values (sizes s) (types_of f.formals) v) → IsTrue (is_value (sizes s) t (old_reads s g v))
    old_typed g f t v ok = look_typed s.parts (filling_of s.instance) fine.well_formed fine.instance.instance (entry_of s.old) fine.old g f t v tt

    new_typed : (g : ℕ) (f : Function) (t : Ty) (v : List Value) → IsRankedBelow s n g → slice_get s.parts.functions g ≡ Some f → read_type f.kind ≡ Some t → IsTrue (are_values (sizes s) (types_of f.formals) v) → IsTrue (is_value (sizes s) t (new_reads s g v))
    new_typed g f t v ok = look_typed s.parts (filling_of s.instance) fine.well_formed fine.instance.instance (entry_of s.new) fine.new g f t v tt

    -- a ready expression has a value of its type
    pub typed_value : (xs : List Ty) (e : Tree) (t : Ty) → IsTrue (are_values (sizes s) xs x) → HasType (signature s.parts) xs e t → LooksAt (IsRankedBelow s n) (IsRankedBelow s n) e → IsTrue (is_value (sizes s) t (tree_value s x e))
    typed_value xs e t a h l = value_typed s.parts (filling_of s.instance) fine.well_formed fine.instance.instance (old_reads s) (new_reads s) (IsRankedBelow s n) (IsRankedBelow s n) old_typed new_typed e xs x t a h l

    typed_values : (xs : List Ty) (ds : Trees) (ts : List Ty) → IsTrue (are_values (sizes s) xs x) → HaveTypes (signature s.parts) xs ds ts → LookAt (IsRankedBelow s n) (IsRankedBelow s n) ds → IsTrue (are_values (sizes s) ts (tree_values s x ds))
    typed_values xs ds ts a h l = values_typed s.parts (filling_of s.instance) fine.well_formed fine.instance.instance (old_reads s) (new_reads s) (IsRankedBelow s n) (IsRankedBelow s n) old_typed new_typed ds xs x ts a h l

    two_at : (o : Op) (e a b : Expr) → Ready (tree e) → e ≡ expr.Two o a b → Ready (Two o (tree a) (tree b))
    two_at o e a b h i = subst Ready (ap tree i ∙ tree-Two o a b) h

    -- the operands of an operator are such as it asks for
    pub left_operand : (o : Op) (e a b d : Expr) → Ready (tree e) → e ≡ expr.Two o a b → d ≡ a → (v : Value) → v ≡ tree_value s x (tree d) → IsOperand s.parts.lattice.count o v
    left_operand o e a b d h i j v q =
        let r = two_at o e a b h i in
        let k = r.typed.2.typed in
        subst (IsOperand s.parts.lattice.count o) (sym (q ∙ ap (λ d. tree_value s x (tree d)) j))
        (operand (sizes s) o k.0 r.typed.1 (tree_value s x (tree a)) k.1 (typed_value r.typed.0 (tree a) k.0 r.typed.2.values k.2 r.reads.0))

    pub right_operand : (o : Op) (e a b d : Expr) → Ready (tree e) → e ≡ expr.Two o a b → d ≡ b → (v : Value) → v ≡ tree_value s x (tree d) → IsOperand s.parts.lattice.count o v
    right_operand o e a b d h i j v q =
        let r = two_at o e a b h i in
        let k = r.typed.2.typed in
        subst (IsOperand s.parts.lattice.count o) (sym (q ∙ ap (λ d. tree_value s x (tree d)) j))
        (operand (sizes s) o k.0 r.typed.1 (tree_value s x (tree b)) k.1 (typed_value r.typed.0 (tree b) k.0 r.typed.2.values k.3 r.reads.1))

    few_args : (xs : List Ty) (formals : List Formal) (as' : List Expr) → length formals ≤ 8 → HaveTypes (signature s.parts) xs (trees_of (map tree as')) (types_of formals) → length as' ≤ 8
    few_args xs formals as' few h =
        let many : length as' ≡ length formals = sym (count-trees as') ∙ count-have s xs (types_of formals) (trees_of (map tree as')) h ∙ length-map formals (λ p. p.ty) in
        omega (arith, many, few)

    -- the arguments of a parameter are ready and few, and it has a table
    pub param_args : (p : ℕ) (e : Expr) (ds as' : List Expr) → Ready (tree e) → e ≡ expr.Param p ds → as' ≡ ds → AreReady s n x (trees_of (map tree as')) × (length as' ≤ 8)
    param_args p e ds as' h i j =
        let r = args_at (expr.Param p) (Param p) (tree-Param p) e ds as' h i j in
        let k = r.typed.2.typed in
        let few = (at_index (IsParam (signature s.parts)) s.parts.params p k.0 fine.well_formed.params k.1).formals.few in
        ((r.typed.0, types_of k.0.formals, record { values = r.typed.2.values; typed = k.3; room = r.typed.2.room; reads = r.reads }), few_args r.typed.0 k.0.formals as' few k.3)

    pub param_within : (p : ℕ) (e : Expr) (ds : List Expr) → Ready (tree e) → e ≡ expr.Param p ds → p < length s.instance.tables
    param_within p e ds h i =
        let r : Ready (Param p (trees_of (map tree ds))) = subst Ready (ap tree i ∙ tree-Param p ds) h in
        subst (λ m. p < m) (sym fine.instance.instance.tables) (slice_get_within s.parts.params p r.typed.2.typed.0 r.typed.2.typed.1)

    -- the arguments of a V-function are ready and few
    read_args : (g : ℕ) (xs : List Ty) (f : Function) (as' : List Expr) → slice_get s.parts.functions g ≡ Some f → IsTrue (are_values (sizes s) xs x) → HaveTypes (signature s.parts) xs (trees_of (map tree as')) (types_of f.formals) → length x + quantifiers_in (trees_of (map tree as')) ≤ 16 → LookAt (IsRankedBelow s n) (IsRankedBelow s n) (trees_of (map tree as')) → AreReady s n x (trees_of (map tree as')) × (length as' ≤ 8)
    read_args g xs f as' there values typed room reads =
        ((xs, types_of f.formals, record { values = values; typed = typed; room = room; reads = reads }), few_args xs f.formals as' (fine.well_formed.functions g f there).formals.few typed)

    pub look_args : (g : ℕ) (e : Expr) (ds as' : List Expr) → Ready (tree e) → e ≡ expr.Look g ds → as' ≡ ds → AreReady s n x (trees_of (map tree as')) × (length as' ≤ 8)
    look_args g e ds as' h i j =
        let r = args_at (expr.Look g) (Look g) (tree-Look g) e ds as' h i j in
        let k = r.typed.2.typed in
        read_args g r.typed.0 k.0 as' k.1 r.typed.2.values k.3 r.typed.2.room r.reads.1

    pub new_args : (g : ℕ) (e : Expr) (ds as' : List Expr) → Ready (tree e) → e ≡ expr.New g ds → as' ≡ ds → AreReady s n x (trees_of (map tree as')) × (length as' ≤ 8)
    new_args g e ds as' h i j =
        let r = args_at (expr.New g) (New g) (tree-New g) e ds as' h i j in
        let k = r.typed.2.typed in
        read_args g r.typed.0 k.0 as' k.1 r.typed.2.values k.3 r.typed.2.room r.reads.1

    -- the V-function that is read is one, at values of its formals' types, and has a rank below the bound
    pub look_place : (g : ℕ) (e : Expr) (ds as' : List Expr) → Ready (tree e) → e ≡ expr.Look g ds → as' ≡ ds → (vs : List Value) → vs ≡ tree_values s x (trees_of (map tree as')) → IsRead s.parts s.instance g vs × IsRankedBelow s n g
    look_place g e ds as' h i j vs q =
        let r = args_at (expr.Look g) (Look g) (tree-Look g) e ds as' h i j in
        let k = r.typed.2.typed in
        let typed = typed_values r.typed.0 (trees_of (map tree as')) (types_of k.0.formals) r.typed.2.values k.3 r.reads.1 in
        ((k.0, r.typed.1, record { function = k.1; type = k.2; arguments = subst (λ vs. IsTrue (are_values (sizes s) (types_of k.0.formals) vs)) (sym q) typed }), r.reads.0)

    pub new_place : (g : ℕ) (e : Expr) (ds as' : List Expr) → Ready (tree e) → e ≡ expr.New g ds → as' ≡ ds → (vs : List Value) → vs ≡ tree_values s x (trees_of (map tree as')) → IsPlace (machine_of s.parts (filling_of s.instance)) g vs × IsRankedBelow s n g
    new_place g e ds as' h i j vs q =
        let r = args_at (expr.New g) (New g) (tree-New g) e ds as' h i j in
        let k = r.typed.2.typed in
        let typed = typed_values r.typed.0 (trees_of (map tree as')) (types_of k.0.formals) r.typed.2.values k.3 r.reads.1 in
        let init = initial_of k.0.kind r.typed.1 k.2 in
        ((k.0, r.typed.1, init.0, record { function = k.1; primitive = init.1; arguments = subst (λ vs. IsTrue (are_values (sizes s) (types_of k.0.formals) vs)) (sym q) typed }), r.reads.0)

  -- one of the arguments
  pub ready_part : (ds : List Expr) (k : ℕ) (d : Expr) → AreReady s n x (trees_of (map tree ds)) → k < length ds → d ≡ get_or ds k d → Ready (tree d)
  ready_part ds k d h = by ds h.1 h.2.typed h.2.room h.2.reads k
    where
      by : (ds : List Expr) (ts : List Ty) → HaveTypes (signature s.parts) h.0 (trees_of (map tree ds)) ts → length x + quantifiers_in (trees_of (map tree ds)) ≤ 16 → LookAt (IsRankedBelow s n) (IsRankedBelow s n) (trees_of (map tree ds)) → (k : ℕ) → k < length ds → d ≡ get_or ds k d → Ready (tree d)
      by [] ts typed room reads k l e = absurd (omega (arith, l))
      by (a ∷ ds) [] typed room reads k l e = absurd typed
      by (a ∷ ds) (t ∷ ts) typed room reads zero l e = subst (λ d. Ready (tree d)) (sym e) (record { typed = (h.0, t, record { values = h.2.values; typed = typed.0; room = omega (arith, room) }); reads = reads.0 })
      by (a ∷ ds) (t ∷ ts) typed room reads (suc k) l e = by ds ts typed.1 (omega (arith, room)) reads.1 k (omega (arith, l)) e

  length-values : (ds : Trees) → length (tree_values s x ds) ≡ count ds
  length-values none = refl
  length-values (more d ds) = ap suc (length-values ds)

  -- there is room for one more of at most eight values
  pub few_values : (ds : List Expr) (k : ℕ) (vs : List Value) → vs ≡ tree_values s x (trees_of (map tree (take k ds))) → k < length ds → length ds ≤ 8 → length vs < 8
  few_values ds k vs q l m =
      let many : length vs ≡ length (take k ds) = ap length q ∙ length-values (trees_of (map tree (take k ds))) ∙ count-trees (take k ds) in
      let few : length (take k ds) ≡ k = length-take-le k ds (omega (arith, l)) in
      omega (arith, many, few, l, m)
