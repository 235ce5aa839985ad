-- A well-typed expression has a value of its type.
use Rattle.std.proofs.Common.{◌≡◌, refl, sym, ◌∙◌, ap, subst, arith, ℕ, zero, suc, ◌<◌, Bool, true, false, ◌&&◌, ◌||◌, ◌==◌, List, [], ◌∷◌, length, Option, Some, None, nat_lt, ℤ, ◌+ℤ◌, ◌-ℤ◌, ◌*ℤ◌}
use Rattle.std.specs.Prelude.{if◌then◌else◌, slice_get, slice_index_or, IsTrue, unwrap_or}
use Rattle.std.specs.List.{All}
use Rattle.std.proofs.lemmas.Bool.Decides.{Decides-eqb, Decides-ltb}
use Rattle.std.proofs.lemmas.List.Elements.{All-head, All-tail}
use Rattle.std.proofs.lemmas.Option.{slice_get_within}
use Rattle.sp_values.specs.declared.value.Value.{Value}
use Rattle.sp_values.specs.declared.value.Value.TheVariants as value
use Rattle.sp_values.specs.declared.value.Ty.{Ty}
use Rattle.sp_values.specs.declared.value.Ty.TheVariants as ty
use Rattle.sp_values.specs.declared.value.Op.{Op}
use Rattle.sp_values.specs.declared.value.Op.TheVariants as op
use Rattle.sp_values.specs.Arithmetic.{in_range, number, on_numbers}
use Rattle.sp_values.specs.Domains.{Sizes, are_values, is_value}
use Rattle.sp_values.specs.Identity.{same_values}
use Rattle.sp_lattice.specs.Order.{join, meet}
use Rattle.sp_core.specs.declared.expr.Expr.{Expr}
use Rattle.sp_core.specs.declared.function.Function.{Function}
use Rattle.sp_core.specs.declared.function.Kind.{Kind}
use Rattle.sp_core.specs.declared.function.Kind.TheVariants as kind
use Rattle.sp_core.specs.declared.function.Param.{Param as Parameter}
use Rattle.sp_core.specs.declared.function.TypeInfo.{TypeInfo}
use Rattle.sp_core.specs.Instances.{Filling, IsInstance, machine_of, row_value, sizes_of, table_value, world_of}
use Rattle.sp_core.specs.Machine.{IsState, types_of}
use Rattle.sp_core.specs.Measures.{LookAt, LooksAt, Anything, Nothing, rank, rank_by, rank_of}
use Rattle.sp_core.specs.Parts.{Parts, signature}
use Rattle.sp_core.specs.Tree.{Tree, Trees, Const, Var, Not, Two, If, Param, Look, Every, New, none, more, tree}
use Rattle.sp_core.specs.Typing.{HasType, HaveTypes, MakesType, declared_members, is_constant, primitive_type, read_type}
use Rattle.sp_core.specs.Values.{Reads, Store, level_number, is_true, look, nothing, nth, reads_by, two, value_of, value_over, values_of}
use Rattle.sp_core.specs.WellFormed.{IsEarlier, IsKind, IsWellFormed}
use Rattle.sp_core.proofs.Agree.{look_anywhere, looks_anywhere}
use Rattle.sp_core.proofs.Looks.{AreOrdered, IsOrderedAs, look_is, rank_below}

pub and_true : (a b : Bool) → (a && b) ≡ true → (a ≡ true) × (b ≡ true)
and_true true true e = (refl, refl)
and_true true false e = (refl, e)
and_true false b e = cc

pub both_true : (a b : Bool) → a ≡ true → b ≡ true → (a && b) ≡ true
both_true true b p q = q
both_true false b p q = p

pub or_left : (a b : Bool) → a ≡ true → (a || b) ≡ true
or_left true b e = refl
or_left false b e = cc

pub or_false : (a : Bool) → (a || false) ≡ true → a ≡ true
or_false true e = refl
or_false false e = e

-- a number, or `?`, is an integer
number_typed : (sz : Sizes) (z : ℤ) → is_value sz ty.Integer (number z) ≡ true
number_typed sz z = by (in_range z) refl
  where
    by : (b : Bool) → in_range z ≡ b → is_value sz ty.Integer (if b then value.Int z else value.Unknown) ≡ true
    by true e = or_left (in_range z) (true && false) e
    by false e = refl

numbers_typed : (sz : Sizes) (f : ℤ → ℤ → ℤ) (a b : Value) → is_value sz ty.Integer (on_numbers f a b) ≡ true
numbers_typed sz f (value.Int a) (value.Int b) = number_typed sz (f a b)
numbers_typed sz f (value.Int a) (value.Truth b) = refl
numbers_typed sz f (value.Int a) (value.Level b) = refl
numbers_typed sz f (value.Int a) (value.Member k b) = refl
numbers_typed sz f (value.Int a) value.Unknown = refl
numbers_typed sz f (value.Truth a) b = refl
numbers_typed sz f (value.Level a) b = refl
numbers_typed sz f (value.Member k a) b = refl
numbers_typed sz f value.Unknown b = refl

-- a level has a number below the count
pub level_below : (sz : Sizes) (v : Value) → is_value sz ty.Level v ≡ true → level_number v < sz.levels
level_below sz (value.Level l) e = (Decides-ltb l sz.levels).0 (or_false (nat_lt l sz.levels) e)
level_below sz (value.Truth b) e = cc
level_below sz (value.Int b) e = cc
level_below sz (value.Member k b) e = cc
level_below sz value.Unknown e = cc

pub level_typed : (sz : Sizes) (l : ℕ) → l < sz.levels → is_value sz ty.Level (value.Level l) ≡ true
level_typed sz l h = or_left (nat_lt l sz.levels) (false && false) ((Decides-ltb l sz.levels).1 h)

variable_typed : (sz : Sizes) (xs : List Ty) (x : List Value) (k : ℕ) (t : Ty) → are_values sz xs x ≡ true → slice_get xs k ≡ Some t → is_value sz t (nth x k) ≡ true
variable_typed sz [] x k t a e = cc
variable_typed sz (u ∷ xs) [] k t a e = cc
variable_typed sz (u ∷ xs) (v ∷ x) zero t a e = let q : u ≡ t = cc in subst (λ t. is_value sz t v ≡ true) q (and_true (is_value sz u v) (are_values sz xs x) a).0
variable_typed sz (u ∷ xs) (v ∷ x) (suc k) t a e = variable_typed sz xs x k t (and_true (is_value sz u v) (are_values sz xs x) a).1 e

if_typed : (sz : Sizes) (b : Bool) (t : Ty) (u v : Value) → is_value sz t u ≡ true → is_value sz t v ≡ true → is_value sz t (if b then u else v) ≡ true
if_typed sz true t u v p q = p
if_typed sz false t u v p q = q

there : {X : Type 0} (xs : List X) (k : ℕ) → k < length xs → (x : X) × (slice_get xs k ≡ Some x)
there [] k l = absurd (omega (arith, l))
there (x ∷ xs) zero l = (x, refl)
there (x ∷ xs) (suc k) l = there xs k (omega (arith, l))

row_typed : (sz : Sizes) (t : Ty) (rows : List (List Value × Value)) (other : Value) (v : List Value) → All (λ r. IsTrue (is_value sz t r.1)) rows → is_value sz t other ≡ true → is_value sz t (row_value rows other v) ≡ true
row_typed sz t [] other v a o = o
row_typed sz t (r ∷ rows) other v a o = if_typed sz (same_values r.0 v) t r.1 (row_value rows other v) (All-head (λ r. IsTrue (is_value sz t r.1)) r rows a) (row_typed sz t rows other v (All-tail (λ r. IsTrue (is_value sz t r.1)) r rows a) o)

pub member_typed : (sz : Sizes) (k m : ℕ) → m < sz.members k → is_value sz (ty.Member k) (value.Member k m) ≡ true
member_typed sz k m l = or_left ((k == k) && nat_lt m (sz.members k)) (true && false) (both_true (k == k) (nat_lt m (sz.members k)) ((Decides-eqb k k).1 refl) ((Decides-ltb m (sz.members k)).1 l))

-- an enumeration has as many members in the instance as it declares
members_fit : (p : Parts) (i : Filling) → IsInstance p i → (k m : ℕ) (o : Option TypeInfo) → slice_get p.types k ≡ o → m < declared_members o → m < slice_index_or i.sizes k 0
members_fit p i inst k m None e l = absurd (omega (arith, l))
members_fit p i inst k m (Some info) e l = by info.members refl l
  where
    size_at : (xs : List ℕ) (j n : ℕ) → slice_get xs j ≡ Some n → slice_index_or xs j 0 ≡ n
    size_at [] j n h = cc
    size_at (x ∷ xs) zero n h = cc
    size_at (x ∷ xs) (suc j) n h = size_at xs j n h

    by : (o : Option (List (List ℕ))) → info.members ≡ o → m < declared_members (Some (record info { members = o })) → m < slice_index_or i.sizes k 0
    by None f h = absurd (omega (arith, h))
    by (Some names) f h = subst (λ n. m < n) (sym (size_at i.sizes k (length names) (inst.enumerations k info names e f))) h

constant_typed : (p : Parts) (i : Filling) → IsInstance p i → (t : Ty) (v : Value) → is_constant (signature p) t v ≡ true → is_value (sizes_of p i) t v ≡ true
constant_typed p i inst ty.Boolean (value.Truth b) e = refl
constant_typed p i inst ty.Boolean (value.Int n) e = cc
constant_typed p i inst ty.Boolean (value.Level n) e = cc
constant_typed p i inst ty.Boolean (value.Member k n) e = cc
constant_typed p i inst ty.Boolean value.Unknown e = cc
constant_typed p i inst ty.Integer (value.Int n) e = or_left (in_range n) (true && false) e
constant_typed p i inst ty.Integer value.Unknown e = refl
constant_typed p i inst ty.Integer (value.Truth b) e = cc
constant_typed p i inst ty.Integer (value.Level n) e = cc
constant_typed p i inst ty.Integer (value.Member k n) e = cc
constant_typed p i inst ty.Level (value.Level l) e = or_left (nat_lt l p.lattice.count) (false && false) e
constant_typed p i inst ty.Level (value.Truth b) e = cc
constant_typed p i inst ty.Level (value.Int n) e = cc
constant_typed p i inst ty.Level (value.Member k n) e = cc
constant_typed p i inst ty.Level value.Unknown e = cc
constant_typed p i inst (ty.Member k) (value.Member j m) e =
    let h = and_true (j == k) (nat_lt m (declared_members (slice_get p.types k))) e in
    let q = (Decides-eqb j k).0 h.0 in
    let l = members_fit p i inst k m (slice_get p.types k) refl ((Decides-ltb m (declared_members (slice_get p.types k))).0 h.1) in
    subst (λ (n : ℕ). is_value (sizes_of p i) (ty.Member k) (value.Member n m) ≡ true) (sym q) (member_typed (sizes_of p i) k m l)
constant_typed p i inst (ty.Member k) value.Unknown e = refl
constant_typed p i inst (ty.Member k) (value.Truth b) e = cc
constant_typed p i inst (ty.Member k) (value.Int n) e = cc
constant_typed p i inst (ty.Member k) (value.Level n) e = cc

param_typed : (p : Parts) (i : Filling) → IsInstance p i → (n : ℕ) (q : Parameter) (v : List Value) → slice_get p.params n ≡ Some q → is_value (sizes_of p i) q.ty (table_value (slice_get i.tables n) v) ≡ true
param_typed p i inst n q v e =
    let l : n < length i.tables = subst (λ m. n < m) (sym inst.tables) (slice_get_within p.params n q e) in
    let t = there i.tables n l in
    let fits = inst.each n q t.0 e t.1 in
    subst (λ o. is_value (sizes_of p i) q.ty (table_value o v) ≡ true) (sym t.1) (row_typed (sizes_of p i) q.ty t.0.rows t.0.other v fits.values fits.other)

-- what the functions give that meet OK is of their types
abbrev pub AreTypedReads : Parts → Filling → (ℕ → Type 0) → Reads → Type 0
AreTypedReads p i OK r = (g : ℕ) (f : Function) (t : Ty) (v : List Value) → OK g → slice_get p.functions g ≡ Some f → read_type f.kind ≡ Some t → IsTrue (are_values (sizes_of p i) (types_of f.formals) v) → IsTrue (is_value (sizes_of p i) t (r g v))

pub primitive_read : (k : Kind) (t : Ty) → primitive_type k ≡ Some t → read_type k ≡ Some t
primitive_read (kind.Primitive u e) t h = h
primitive_read (kind.Derived u e) t h = cc
primitive_read (kind.Operation es) t h = cc
primitive_read (kind.Both u es) t h = cc

ordered_by : (p : Parts) (g : ℕ) (f : Function) (k : Kind) → IsKind (signature p) (types_of f.formals) g k → IsOrderedAs p.functions g k
ordered_by p g f (kind.Primitive t e) h = tt
ordered_by p g f (kind.Derived t e) h = h.reads_earlier
ordered_by p g f (kind.Operation es) h = tt
ordered_by p g f (kind.Both t es) h = tt

-- the derivations of a well-formed specification are ordered
pub ordered_functions : (p : Parts) → IsWellFormed p → AreOrdered p.functions
ordered_functions p wf = record { each = λ g f e. ordered_by p g f f.kind (wf.functions g f e).kind }

module _ (p : Parts) (i : Filling) (wf : IsWellFormed p) (inst : IsInstance p i) where
  two_typed : (o : Op) (u t : Ty) (a b : Value) → MakesType o u t → is_value (sizes_of p i) u a ≡ true → is_value (sizes_of p i) u b ≡ true → is_value (sizes_of p i) t (two (world_of p i) o a b) ≡ true
  two_typed op.And u t a b h x y = rw h.1 refl
  two_typed op.Or u t a b h x y = rw h.1 refl
  two_typed op.Same u t a b h x y = rw h refl
  two_typed op.LevelLe u t a b h x y = rw h.1 refl
  two_typed op.IntLe u t a b h x y = rw h.1 refl
  two_typed op.IntLt u t a b h x y = rw h.1 refl
  two_typed op.Add u t a b h x y = rw h.1 (numbers_typed (sizes_of p i) ◌+ℤ◌ a b)
  two_typed op.Sub u t a b h x y = rw h.1 (numbers_typed (sizes_of p i) ◌-ℤ◌ a b)
  two_typed op.Mul u t a b h x y = rw h.1 (numbers_typed (sizes_of p i) ◌*ℤ◌ a b)
  two_typed op.Lub u t a b h x y =
      let la = level_below (sizes_of p i) a (subst (λ v. is_value (sizes_of p i) v a ≡ true) h.0 x) in
      let lb = level_below (sizes_of p i) b (subst (λ v. is_value (sizes_of p i) v b ≡ true) h.0 y) in
      rw h.1 (level_typed (sizes_of p i) (join p.lattice (level_number a) (level_number b)) (wf.lattice.lubs (level_number a) (level_number b) la lb).level)
  two_typed op.Glb u t a b h x y =
      let la = level_below (sizes_of p i) a (subst (λ v. is_value (sizes_of p i) v a ≡ true) h.0 x) in
      let lb = level_below (sizes_of p i) b (subst (λ v. is_value (sizes_of p i) v b ≡ true) h.0 y) in
      rw h.1 (level_typed (sizes_of p i) (meet p.lattice (level_number a) (level_number b)) (wf.lattice.glbs (level_number a) (level_number b) la lb).level)

  module _ (r n : Reads) (OK NewOK : ℕ → Type 0) (old_typed : AreTypedReads p i OK r) (new_typed : AreTypedReads p i NewOK n) where
    mutual
      pub value_typed : (e : Tree) (xs : List Ty) (x : List Value) (t : Ty) → are_values (sizes_of p i) xs x ≡ true → HasType (signature p) xs e t → LooksAt OK NewOK e → is_value (sizes_of p i) t (value_of (world_of p i) r n x e) ≡ true
      value_typed (Const v) xs x t a h ok = constant_typed p i inst t v h
      value_typed (Var k) xs x t a h ok = variable_typed (sizes_of p i) xs x k t a h
      value_typed (Not e) xs x t a h ok = rw h.0 refl
      value_typed (Two o e d) xs x t a h ok = two_typed o h.0 t (value_of (world_of p i) r n x e) (value_of (world_of p i) r n x d) h.1 (value_typed e xs x h.0 a h.2 ok.0) (value_typed d xs x h.0 a h.3 ok.1)
      value_typed (If c e d) xs x t a h ok = if_typed (sizes_of p i) (is_true (value_of (world_of p i) r n x c)) t (value_of (world_of p i) r n x e) (value_of (world_of p i) r n x d) (value_typed e xs x t a h.1 ok.1) (value_typed d xs x t a h.2 ok.2)
      value_typed (Param q ds) xs x t a h ok = subst (λ u. is_value (sizes_of p i) u (table_value (slice_get i.tables q) (values_of (world_of p i) r n x ds)) ≡ true) h.2 (param_typed p i inst q h.0 (values_of (world_of p i) r n x ds) h.1)
      value_typed (Look g ds) xs x t a h ok = old_typed g h.0 t (values_of (world_of p i) r n x ds) ok.0 h.1 h.2 (values_typed ds xs x (types_of h.0.formals) a h.3 ok.1)
      value_typed (Every k u b) xs x t a h ok = rw h.0 refl
      value_typed (New g ds) xs x t a h ok = new_typed g h.0 t (values_of (world_of p i) r n x ds) ok.0 h.1 (primitive_read h.0.kind t h.2) (values_typed ds xs x (types_of h.0.formals) a h.3 ok.1)

      pub values_typed : (ds : Trees) (xs : List Ty) (x : List Value) (ts : List Ty) → are_values (sizes_of p i) xs x ≡ true → HaveTypes (signature p) xs ds ts → LookAt OK NewOK ds → are_values (sizes_of p i) ts (values_of (world_of p i) r n x ds) ≡ true
      values_typed none xs x [] a h ok = refl
      values_typed none xs x (t ∷ ts) a h ok = absurd h
      values_typed (more d ds) xs x [] a h ok = absurd h
      values_typed (more d ds) xs x (t ∷ ts) a h ok = both_true (is_value (sizes_of p i) t (value_of (world_of p i) r n x d)) (are_values (sizes_of p i) ts (values_of (world_of p i) r n x ds)) (value_typed d xs x t a h.0 ok.0) (values_typed ds xs x ts a h.1 ok.1)

  nothing_typed : AreTypedReads p i Nothing nothing
  nothing_typed g f t v ok e k a = absurd ok

  module _ (s : Store) (state : IsState (machine_of p i) s) where
    entry_typed : (g : ℕ) (f : Function) (t : Ty) (init : Expr) (v : List Value) (o : Option Value) → s g v ≡ o → slice_get p.functions g ≡ Some f → f.kind ≡ kind.Primitive t init → is_value (sizes_of p i) t (value_of (world_of p i) nothing nothing v (tree init)) ≡ true → is_value (sizes_of p i) t (unwrap_or o (value_of (world_of p i) nothing nothing v (tree init))) ≡ true
    entry_typed g f t init v None e there kind_is h = h
    entry_typed g f t init v (Some x) e there kind_is h =
        let n = state.entries g v x e in
        let same : Some n.0 ≡ Some f = sym n.3.function ∙ there in
        let one : n.0 ≡ f = cc in
        let kinds : kind.Primitive n.1 n.2 ≡ kind.Primitive t init = sym n.3.primitive ∙ ap (λ (z : Function). z.kind) one ∙ kind_is in
        let types : n.1 ≡ t = cc in
        subst (λ u. is_value (sizes_of p i) u x ≡ true) types n.4

    by_kind : (n g : ℕ) (f : Function) (t : Ty) (v : List Value) (k : Kind) → f.kind ≡ k → slice_get p.functions g ≡ Some f → rank_by g k < suc n → read_type k ≡ Some t → are_values (sizes_of p i) (types_of f.formals) v ≡ true → IsKind (signature p) (types_of f.formals) g k
        → AreTypedReads p i (λ h. rank p.functions h < n) (look (world_of p i) p.functions s) → is_value (sizes_of p i) t (reads_by (world_of p i) s (look (world_of p i) p.functions s) (Some (record f { kind = k })) g v) ≡ true
    by_kind n g f t v (kind.Primitive u init) e there l rt a h ih =
        let q : u ≡ t = cc in
        subst (λ z. is_value (sizes_of p i) z (unwrap_or (s g v) (value_of (world_of p i) nothing nothing v (tree init))) ≡ true) q
        (entry_typed g f u init v (s g v) refl there e (value_typed nothing nothing Nothing Nothing nothing_typed nothing_typed (tree init) (types_of f.formals) v u a h.expression.typed h.reads_nothing))
    by_kind n g f t v (kind.Derived u d) e there l rt a h ih =
        let q : u ≡ t = cc in
        subst (λ z. is_value (sizes_of p i) z (value_of (world_of p i) (look (world_of p i) p.functions s) (look (world_of p i) p.functions s) v (tree d)) ≡ true) q
        (value_typed (look (world_of p i) p.functions s) (look (world_of p i) p.functions s) (IsEarlier p.functions g) Nothing (λ h' f' t' v' ok. ih h' f' t' v' (let m = rank_below p.functions g h' ok in omega (arith, m, l))) (λ h' f' t' v' ok. absurd ok) (tree d) (types_of f.formals) v u a h.expression.typed h.reads_earlier)
    by_kind n g f t v (kind.Operation es) e there l rt a h ih = cc
    by_kind n g f t v (kind.Both u es) e there l rt a h ih = cc

    looks_typed : (n : ℕ) → AreTypedReads p i (λ h. rank p.functions h < n) (look (world_of p i) p.functions s)
    looks_typed zero g f t v ok e k a = absurd (omega (arith, ok))
    looks_typed (suc n) g f t v ok e k a =
        let l : rank_by g f.kind < suc n = subst (λ o. rank_of g o < suc n) e ok in
        subst (λ z. is_value (sizes_of p i) t z ≡ true) (sym (look_is (world_of p i) p.functions (ordered_functions p wf) s g v ∙ ap (λ o. reads_by (world_of p i) s (look (world_of p i) p.functions s) o g v) e))
        (by_kind n g f t v f.kind refl e l k a (wf.functions g f e).kind (looks_typed n))

    -- what a state gives at a V-function, at values of its formals' types, is of its type
    pub look_typed : AreTypedReads p i Anything (look (world_of p i) p.functions s)
    look_typed g f t v ok e k a = looks_typed (suc (rank p.functions g)) g f t v (omega arith) e k a

-- a well-typed expression has over two states a value of its type
pub typed : (p : Parts) (i : Filling) → IsWellFormed p → IsInstance p i → (s u : Store) → IsState (machine_of p i) s → IsState (machine_of p i) u → (xs : List Ty) (x : List Value) (e : Tree) (t : Ty) → IsTrue (are_values (sizes_of p i) xs x) → HasType (signature p) xs e t → IsTrue (is_value (sizes_of p i) t (value_over (world_of p i) p.functions s u x e))
typed p i wf inst s u state new_state xs x e t a h =
    value_typed p i wf inst (look (world_of p i) p.functions s) (look (world_of p i) p.functions u) Anything Anything (look_typed p i wf inst s state) (look_typed p i wf inst u new_state) e xs x t a h (looks_anywhere e)

pub all_typed : (p : Parts) (i : Filling) → IsWellFormed p → IsInstance p i → (s u : Store) → IsState (machine_of p i) s → IsState (machine_of p i) u → (xs : List Ty) (x : List Value) (ds : Trees) (ts : List Ty) → IsTrue (are_values (sizes_of p i) xs x) → HaveTypes (signature p) xs ds ts → IsTrue (are_values (sizes_of p i) ts (values_of (world_of p i) (look (world_of p i) p.functions s) (look (world_of p i) p.functions u) x ds))
all_typed p i wf inst s u state new_state xs x ds ts a h =
    values_typed p i wf inst (look (world_of p i) p.functions s) (look (world_of p i) p.functions u) Anything Anything (look_typed p i wf inst s state) (look_typed p i wf inst u new_state) ds xs x ts a h (look_anywhere ds)
