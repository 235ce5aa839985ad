-- Translated levels are well typed and look at no V-function.
use Rattle.std.proofs.Common.{◌≡◌, refl, sym, ◌∙◌, ap, subst, arith, rules, ℕ, zero, suc, ◌+◌, ◌<◌, ◌≤◌, List, [], ◌∷◌, ◌++◌, Bool, true, false, Option, Some, None, length, map}
use Rattle.std.specs.Prelude.{IsTrue, ◌&&◌, ◌==◌, nat_eq, nat_lt, slice_get, slice_index_or}
use Rattle.sp_values.specs.declared.value.Op.{Op}
use Rattle.sp_values.specs.declared.value.Op.TheVariants as op
use Rattle.sp_values.specs.declared.value.Ty.{Ty}
use Rattle.sp_values.specs.declared.value.Ty.TheVariants as ty
use Rattle.sp_values.specs.declared.value.Value.{Value}
use Rattle.sp_values.specs.declared.value.Value.TheVariants as value
use Rattle.sp_core.specs.declared.expr.Expr.{Expr}
use Rattle.sp_core.specs.declared.function.Param.{Param as Parameter}
use Rattle.sp_core.specs.declared.function.TypeInfo.{TypeInfo}
use Rattle.sp_core.specs.Machine.{types_of}
use Rattle.sp_core.specs.Measures.{LookAt, LooksAt, Nothing, quantifiers, quantifiers_in}
use Rattle.sp_core.specs.Parts.{Parts, signature}
use Rattle.sp_core.specs.Tree.{Tree, Trees, Const, Var, Not, Two, If, Param, Look, Every, New, none, more, tree}
use Rattle.sp_core.specs.Typing.{HasType, HaveTypes, MakesType, declared_members, is_constant}
use Rattle.sp_core.proofs.Types.{and_true, both_true}
use Rattle.sp_expand.specs.Expansion.{put}
use Rattle.sp_expand.proofs.PutTyped.{put_typed}
use Rattle.sp_judge.specs.Translation.{expanded}
use Rattle.sp_typed.proofs.Quotes.{put_looks}
use Rattle.sp_mapping_rules.specs.Levels.{level_over, levels_over, type_over, value_over}
use Rattle.sp_mapping_rules.specs.Types.{same_sort}
use Rattle.sp_mapping_laws.proofs.Lists.{map_got, map_length, some_item}
use Rattle.sp_mapping_laws.proofs.Types.{IsTypeRow, below, less}

-- the expression of upper parameter k: of its type, translated, over lower parameters
pub record IsParamCore (p : Parts) (ts : List ℕ) (q : Parameter) (e : Expr) : Type 0 where
  pub typed : HasType (signature p) (map (type_over ts) (types_of q.formals)) (tree e) (type_over ts q.ty)
  pub nothing : LooksAt Nothing Nothing (tree e)

made_over : (ts : List ℕ) (o : Op) (v t : Ty) → MakesType o v t → MakesType o (type_over ts v) (type_over ts t)
made_over ts op.And v t h = (ap (type_over ts) h.0, ap (type_over ts) h.1)
made_over ts op.Or v t h = (ap (type_over ts) h.0, ap (type_over ts) h.1)
made_over ts op.Same v t h = ap (type_over ts) h
made_over ts op.LevelLe v t h = (ap (type_over ts) h.0, ap (type_over ts) h.1)
made_over ts op.IntLe v t h = (ap (type_over ts) h.0, ap (type_over ts) h.1)
made_over ts op.IntLt v t h = (ap (type_over ts) h.0, ap (type_over ts) h.1)
made_over ts op.Add v t h = (ap (type_over ts) h.0, ap (type_over ts) h.1)
made_over ts op.Sub v t h = (ap (type_over ts) h.0, ap (type_over ts) h.1)
made_over ts op.Mul v t h = (ap (type_over ts) h.0, ap (type_over ts) h.1)
made_over ts op.Lub v t h = (ap (type_over ts) h.0, ap (type_over ts) h.1)
made_over ts op.Glb v t h = (ap (type_over ts) h.0, ap (type_over ts) h.1)

-- as many members
same_count : (a b : TypeInfo) (m : ℕ) → IsTrue (same_sort a b) → IsTrue (nat_lt m (declared_members (Some a))) → IsTrue (nat_lt m (declared_members (Some b)))
same_count a b m h k = by a.members b.members h k
  where
    by : (x y : Option (List (List ℕ))) → IsTrue (same_sort (record { name = a.name; members = x }) (record { name = b.name; members = y })) →
        IsTrue (nat_lt m (declared_members (Some (record { name = a.name; members = x })))) → IsTrue (nat_lt m (declared_members (Some (record { name = b.name; members = y }))))
    by None None h k = k
    by None (Some ys) h k = absurd cc
    by (Some xs) None h k = absurd cc
    by (Some xs) (Some ys) h k = grind (arith, rules)

no_quantifiers : (m n : ℕ) → m ≡ 0 → n ≤ m → n ≡ 0
no_quantifiers m n e h = omega (arith, e, h)

module _ (u p : Parts) (ts : List ℕ) (ps : List Expr) (levels : u.lattice.count ≡ p.lattice.count)
    (rows : (k : ℕ) (a : TypeInfo) → slice_get u.types k ≡ Some a → IsTypeRow p ts k a)
    (cores : (k : ℕ) (q : Parameter) → slice_get u.params k ≡ Some q → (e : Expr) × (slice_get ps k ≡ Some e) × IsParamCore p ts q e) where
  row_there : (k : ℕ) → IsTrue (nat_lt k (length u.types)) → (a : TypeInfo) × (slice_get u.types k ≡ Some a) × IsTypeRow p ts k a
  row_there k h =
      let lt : k < length u.types = grind (arith, rules) in
      let a = some_item u.types k lt in
      (a.0, a.1, rows k a.0 a.1)

  is_same : (m : ℕ) → (m == m) ≡ true
  is_same m = grind (arith, rules)

  member_over : (k j m : ℕ) → IsTrue ((j == k) && nat_lt m (declared_members (slice_get u.types k))) →
      IsTrue ((slice_index_or ts j 0 == slice_index_or ts k 0) && nat_lt m (declared_members (slice_get p.types (slice_index_or ts k 0))))
  member_over k j m h = by (slice_get u.types k) refl both.1
    where
      both : ((j == k) ≡ true) × (nat_lt m (declared_members (slice_get u.types k)) ≡ true)
      both = and_true (j == k) (nat_lt m (declared_members (slice_get u.types k))) h

      same : j ≡ k
      same = grind (arith, rules)

      by : (o : Option TypeInfo) → slice_get u.types k ≡ o → nat_lt m (declared_members o) ≡ true →
          ((slice_index_or ts j 0 == slice_index_or ts k 0) && nat_lt m (declared_members (slice_get p.types (slice_index_or ts k 0)))) ≡ true
      by None e l = let lt : m < 0 = below m 0 l in let none : ⊥ = omega (arith, lt) in absurd none
      by (Some a) e l =
          let r = rows k a e in
          both_true (slice_index_or ts j 0 == slice_index_or ts k 0) (nat_lt m (declared_members (slice_get p.types (slice_index_or ts k 0))))
          (subst (λ z. (slice_index_or ts z 0 == slice_index_or ts k 0) ≡ true) (sym same) (is_same (slice_index_or ts k 0)))
          (subst (λ o. nat_lt m (declared_members o) ≡ true) (sym r.there) (same_count a r.lower m r.sort l))

  constant : (t : Ty) (v : Value) → IsTrue (is_constant (signature u) t v) → IsTrue (is_constant (signature p) (type_over ts t) (value_over ts v))
  constant ty.Boolean (value.Truth b) h = refl
  constant ty.Integer (value.Int n) h = h
  constant ty.Integer value.Unknown h = refl
  constant ty.Level (value.Level l) h = subst (λ n. IsTrue (nat_lt l n)) levels h
  constant (ty.Member k) (value.Member j m) h = member_over k j m h
  constant (ty.Member k) value.Unknown h = less (slice_index_or ts k 0) (length p.types) (row_there k h).2.number
  constant t v h = absurd cc

  mutual
    pub level_typed : (xs : List Ty) (e : Tree) (t : Ty) → quantifiers e ≡ 0 → LooksAt Nothing Nothing e → HasType (signature u) xs e t →
        HasType (signature p) (map (type_over ts) xs) (level_over ts ps (length xs) e) (type_over ts t)
    level_typed xs (Const v) t q l h = constant t v h
    level_typed xs (Var k) t q l h = map_got (type_over ts) xs k t h
    level_typed xs (Not a) t q l h = (ap (type_over ts) h.0, level_typed xs a ty.Boolean q l h.1)
    level_typed xs (Two o a b) t q l h =
        let x : quantifiers a ≡ 0 = omega (arith, q) in
        let y : quantifiers b ≡ 0 = omega (arith, q) in
        (type_over ts h.0, made_over ts o h.0 t h.1, level_typed xs a h.0 x l.0 h.2, level_typed xs b h.0 y l.1 h.3)
    level_typed xs (If c a b) t q l h =
        let x : quantifiers c ≡ 0 = omega (arith, q) in
        let y : quantifiers a ≡ 0 = omega (arith, q) in
        let z : quantifiers b ≡ 0 = omega (arith, q) in
        (level_typed xs c ty.Boolean x l.0 h.0, level_typed xs a t y l.1 h.1, level_typed xs b t z l.2 h.2)
    level_typed xs (Param k ds) t q l h =
        let c = cores k h.0 h.1 in
        let n : length (map (type_over ts) xs) ≡ length xs = map_length (type_over ts) xs in
        let typed : HasType (signature p) (map (type_over ts) (types_of h.0.formals)) (tree c.0) (type_over ts t) = subst (λ z. HasType (signature p) (map (type_over ts) (types_of h.0.formals)) (tree c.0) (type_over ts z)) h.2 c.2.typed in
        let is = subst (λ m. HasType (signature p) (map (type_over ts) xs) (put m (levels_over ts ps (length xs) ds) (tree c.0)) (type_over ts t)) n
        (put_typed (signature p) (tree c.0) (map (type_over ts) xs) (map (type_over ts) (types_of h.0.formals)) (levels_over ts ps (length xs) ds) (type_over ts t) (levels_typed xs ds (types_of h.0.formals) q l h.3) typed) in
        subst (λ o. HasType (signature p) (map (type_over ts) xs) (expanded (length xs) (levels_over ts ps (length xs) ds) o) (type_over ts t)) (sym c.1) is
    level_typed xs (Look g ds) t q l h = absurd l.0
    level_typed xs (Every k v b) t q l h = absurd cc
    level_typed xs (New g ds) t q l h = absurd l.0

    levels_typed : (xs : List Ty) (ds : Trees) (ys : List Ty) → quantifiers_in ds ≡ 0 → LookAt Nothing Nothing ds → HaveTypes (signature u) xs ds ys →
        HaveTypes (signature p) (map (type_over ts) xs) (levels_over ts ps (length xs) ds) (map (type_over ts) ys)
    levels_typed xs none [] q l h = tt
    levels_typed xs none (y ∷ ys) q l h = absurd h
    levels_typed xs (more d ds) [] q l h = absurd h
    levels_typed xs (more d ds) (y ∷ ys) q l h =
        let x : quantifiers d ≡ 0 = omega (arith, q) in
        let z : quantifiers_in ds ≡ 0 = omega (arith, q) in
        (level_typed xs d y x l.0 h.0, levels_typed xs ds ys z l.1 h.1)

  mutual
    pub level_nothing : (xs : List Ty) (n : ℕ) (e : Tree) (t : Ty) → HasType (signature u) xs e t → LooksAt Nothing Nothing (level_over ts ps n e)
    level_nothing xs n (Const v) t h = tt
    level_nothing xs n (Var k) t h = tt
    level_nothing xs n (Not a) t h = level_nothing xs n a ty.Boolean h.1
    level_nothing xs n (Two o a b) t h = (level_nothing xs n a h.0 h.2, level_nothing xs n b h.0 h.3)
    level_nothing xs n (If c a b) t h = (level_nothing xs n c ty.Boolean h.0, level_nothing xs n a t h.1, level_nothing xs n b t h.2)
    level_nothing xs n (Param k ds) t h =
        let c = cores k h.0 h.1 in
        subst (λ o. LooksAt Nothing Nothing (expanded n (levels_over ts ps n ds) o)) (sym c.1)
        (put_looks Nothing Nothing (tree c.0) n (levels_over ts ps n ds) (levels_nothing xs n ds (types_of h.0.formals) h.3) c.2.nothing)
    level_nothing xs n (Look g ds) t h = tt
    level_nothing xs n (Every k v b) t h = tt
    level_nothing xs n (New g ds) t h = tt

    levels_nothing : (xs : List Ty) (n : ℕ) (ds : Trees) (ys : List Ty) → HaveTypes (signature u) xs ds ys → LookAt Nothing Nothing (levels_over ts ps n ds)
    levels_nothing xs n none ys h = tt
    levels_nothing xs n (more d ds) [] h = absurd h
    levels_nothing xs n (more d ds) (y ∷ ys) h = (level_nothing xs n d y h.0, levels_nothing xs n ds ys h.1)
