-- What breaks no rule is translated to a well typed expression.
use Rattle.std.proofs.Common.{◌≡◌, refl, sym, ◌∙◌, ap, subst, rules, arith, ℕ, zero, suc, ◌+◌, Bool, true, false, List, [], ◌∷◌, ◌++◌, Option, Some, None, length}
use Rattle.std.specs.Prelude.{slice_get, is_some, IsTrue, nat_lt, nat_eq, if◌then◌else◌}
use Rattle.sp_text.specs.declared.fault.Span.{Span}
use Rattle.sp_values.specs.declared.value.Ty.{Ty}
use Rattle.sp_values.specs.declared.value.Ty.TheVariants as ty
use Rattle.sp_values.specs.declared.value.Op.TheVariants as op
use Rattle.sp_tree.specs.declared.names.Ident.{Ident}
use Rattle.sp_tree.specs.declared.names.TypeTree.{TypeTree}
use Rattle.sp_tree.specs.declared.names.TypeTree.TheVariants as typing
use Rattle.sp_tree.specs.declared.names.FormalTree.{FormalTree}
use Rattle.sp_tree.specs.declared.expr.BinOp.{BinOp}
use Rattle.sp_tree.specs.declared.expr.BinOp.TheVariants as bin
use Rattle.sp_core.specs.declared.expr.Expr.{Expr}
use Rattle.sp_core.specs.declared.function.Function.{Function}
use Rattle.sp_core.specs.declared.function.Kind.{Kind}
use Rattle.sp_core.specs.declared.function.Kind.TheVariants as kind
use Rattle.sp_core.specs.Machine.{types_of}
use Rattle.sp_core.specs.Tree.{Tree, Trees, tree}
use Rattle.sp_core.specs.Tree as core
use Rattle.sp_core.specs.Typing.{Signature, HasType, HaveTypes, is_type, is_finite, read_type, primitive_type}
use Rattle.sp_expand.proofs.PutTyped.{put_typed}
use Rattle.sp_plain.specs.Text.{Text, Texts, Name, Number, Truth, Unknown, Bottom, Top, Call, New, Paren, Not, Binary, Join, If, Quant, none, more, count, span}
use Rattle.sp_text.specs.declared.violation.Violation.{Violation}
use Rattle.sp_naming.specs.declared.declaration.Entity.{Entity}
use Rattle.sp_naming.specs.declared.declaration.Entity.TheVariants as entity
use Rattle.sp_scopes.specs.declared.heads.Head.{Head}
use Rattle.sp_judge.specs.declared.scope.Site.{Site}
use Rattle.sp_judge.specs.declared.scope.Site.TheVariants as site
use Rattle.sp_judge.specs.Visible.{Visible, see, param_at, function_at, definition_at}
use Rattle.sp_scopes.specs.declared.heads.Local.{Local}
use Rattle.sp_judge.specs.declared.scope.Meaning.{Meaning}
use Rattle.sp_judge.specs.declared.scope.Meaning.TheVariants as meaning_
use Rattle.sp_judge.specs.Names.{meaning, shared_of, head_of, sort_type, type_of_head, declared_type, type_of, with_formal}
use Rattle.sp_text.specs.declared.fault.Rule.TheVariants as rule
use Rattle.sp_text.specs.Firsts.{behind}
use Rattle.sp_text.specs.Violations.{breaks}
use Rattle.sp_judge.specs.Translation.{own, name_type, either_type, binary_type, binary_core, le_op, call_core, new_core, expanded, quant_core, join_op, translation, translations}
use Rattle.sp_judge.specs.Broken.{asks, one_type, no_type, ordered, typed_part, hole, sides_asked, sides_rules, branch_rules, typed_rule, called_rules, quoted_rules, quote_rules, primitive_sort, asked_of, count_rule, result_rule, type_name_rules, type_rules, twice_rule, formal_rules, broken, all_broken}
use Rattle.sp_typed.specs.Fits.{types, AreTypes, IsAsked, IsMeant, IsHead, IsParamHead, IsFunctionHead, IsScopeOf, IsKept, Fits, AreNumbers, AreNumbersIn, kind_sort}
use Rattle.sp_typed.proofs.Fitting.{behind_inner, behind_own, append_left, append_right, fits_fixed, fits_unknown, fits_name, fits_branches, fits_sides, meaning_meant}

pub types-length : (l : List Local) → length (types l) ≡ length l
types-length [] = refl
types-length (x ∷ l) = ap suc (types-length l)

pub types-append : (l m : List Local) → types (l ++ m) ≡ types l ++ types m
types-append [] m = refl
types-append (x ∷ l) m = ap (λ z. x.ty ∷ z) (types-append l m)

pub are-append : (sg : Signature) (l m : List Local) → AreTypes sg l → AreTypes sg m → AreTypes sg (l ++ m)
are-append sg [] m h k = k
are-append sg (x ∷ l) m h k = (h.0, are-append sg l m h.1 k)

some_at : {X : Type 0} (xs : List X) (k : ℕ) → nat_lt k (length xs) ≡ true → (x : X) × (slice_get xs k ≡ Some x)
some_at [] k h = absurd (grind (arith, rules))
some_at (x ∷ xs) zero h = (x, refl)
some_at (x ∷ xs) (suc k) h = some_at xs k (grind (arith, rules))

same_some : {X : Type 0} (o : Option X) (x y : X) → o ≡ Some x → o ≡ Some y → x ≡ y
same_some o x y h k = cc

-- a call that isn't refused has a head with a type
some_typed : (p : Span) (o : Option Head) → typed_rule p (type_of_head o) ≡ [] → (h : Head) × (t : Ty) × (o ≡ Some h) × (sort_type h.sort ≡ Some t)
some_typed p None k = cc
some_typed p (Some h) k = by (sort_type h.sort) refl k
  where
    by : (u : Option Ty) → sort_type h.sort ≡ u → typed_rule p u ≡ [] → (d : Head) × (t : Ty) × (Some h ≡ Some d) × (sort_type d.sort ≡ Some t)
    by None e k = cc
    by (Some t) e k = (h, t, refl, e)

-- a quoted reference that is kept is that of a primitive V-function
quoted_right : (p : Span) (o : Option Head) → quote_rules site.Right p o ≡ [] → (h : Head) × (t : Ty) × (o ≡ Some h) × (primitive_sort h.sort ≡ Some t)
quoted_right p None k = cc
quoted_right p (Some h) k = by (primitive_sort h.sort) refl k
  where
    by : (u : Option Ty) → primitive_sort h.sort ≡ u → (if is_some u then [] else breaks p rule.NewValueOnRight) ≡ [] → (d : Head) × (t : Ty) × (Some h ≡ Some d) × (primitive_sort d.sort ≡ Some t)
    by None e k = cc
    by (Some t) e k = (h, t, refl, e)

quoted : (i : Site) (p : Span) (o : Option Head) → IsKept i → quote_rules i p o ≡ [] → (h : Head) × (t : Ty) × (o ≡ Some h) × (primitive_sort h.sort ≡ Some t)
quoted site.Outside p o i h = cc
quoted site.Guard p o i h = cc
quoted site.Right p o i h = quoted_right p o h
quoted site.Loose p o i h = absurd i

read-sort : (k : Kind) → read_type k ≡ sort_type (kind_sort k)
read-sort (kind.Primitive t e) = refl
read-sort (kind.Derived t e) = refl
read-sort (kind.Operation es) = refl
read-sort (kind.Both t es) = refl

primitive-sort : (k : Kind) → primitive_type k ≡ primitive_sort (kind_sort k)
primitive-sort (kind.Primitive t e) = refl
primitive-sort (kind.Derived t e) = refl
primitive-sort (kind.Operation es) = refl
primitive-sort (kind.Both t es) = refl

-- the types that a function's head tells
pub head-result : (h : Head) (f : Function) → IsFunctionHead h f → read_type f.kind ≡ sort_type h.sort
head-result h f i = read-sort f.kind ∙ ap sort_type i.sort

pub head-primitive : (h : Head) (f : Function) → IsFunctionHead h f → primitive_type f.kind ≡ primitive_sort h.sort
head-primitive h f i = primitive-sort f.kind ∙ ap primitive_sort i.sort

module _ (sg : Signature) (s : Visible) (w : IsScopeOf sg s) where
  name_asked : (xs : List Ty) (m : Meaning) → IsMeant sg xs m → IsAsked sg (name_type m)
  name_asked xs meaning_.Nothing h = tt
  name_asked xs (meaning_.Variable k t) h = h.1
  name_asked xs (meaning_.Shared (entity.Declared t)) h = tt
  name_asked xs (meaning_.Shared (entity.Member t k)) h = h.0
  name_asked xs (meaning_.Shared (entity.Param t)) h = tt
  name_asked xs (meaning_.Shared (entity.Definition t)) h = tt
  name_asked xs (meaning_.Shared (entity.Function t)) h = tt
  name_asked xs (meaning_.Shared (entity.Level t)) h = refl

  is_head : (m : Meaning) (h : Head) → head_of s m ≡ Some h → IsHead sg h
  is_head meaning_.Nothing h e = cc
  is_head (meaning_.Variable k t) h e = cc
  is_head (meaning_.Shared (entity.Declared t)) h e = cc
  is_head (meaning_.Shared (entity.Member t k)) h e = cc
  is_head (meaning_.Shared (entity.Param t)) h e = w.param_heads t h e
  is_head (meaning_.Shared (entity.Definition t)) h e = w.definition_heads t h e
  is_head (meaning_.Shared (entity.Function t)) h e = w.function_heads t h e
  is_head (meaning_.Shared (entity.Level t)) h e = cc

  head_asked : (o : Option Head) → ((h : Head) → o ≡ Some h → IsHead sg h) → IsAsked sg (type_of_head o)
  head_asked None k = tt
  head_asked (Some h) k = (k h refl).result

  either_asked : (t u : Option Ty) → IsAsked sg t → IsAsked sg u → IsAsked sg (either_type t u)
  either_asked None u h k = k
  either_asked (Some t) u h k = h

  binary_asked : (o : BinOp) → IsAsked sg (Some (binary_type o))
  binary_asked bin.Iff = refl
  binary_asked bin.Implies = refl
  binary_asked bin.Or = refl
  binary_asked bin.And = refl
  binary_asked bin.Eq = refl
  binary_asked bin.Ne = refl
  binary_asked bin.Lt = refl
  binary_asked bin.Le = refl
  binary_asked bin.Gt = refl
  binary_asked bin.Ge = refl
  binary_asked bin.Add = refl
  binary_asked bin.Sub = refl
  binary_asked bin.Mul = refl

  -- the type of its own is one of the signature
  pub own_asked : (l : List Local) → AreTypes sg l → (e : Text) → IsAsked sg (own s l e)
  own_asked l a (Name p x) = name_asked (types l) (meaning s l x) (meaning_meant sg s w l a x)
  own_asked l a (Number p n) = refl
  own_asked l a (Truth p b) = refl
  own_asked l a (Unknown p) = tt
  own_asked l a (Bottom p) = refl
  own_asked l a (Top p) = refl
  own_asked l a (Call p f ds) = head_asked (head_of s (meaning s l f.name)) (is_head (meaning s l f.name))
  own_asked l a (New p f ds) = head_asked (head_of s (meaning s l f.name)) (is_head (meaning s l f.name))
  own_asked l a (Paren p d) = own_asked l a d
  own_asked l a (Not p d) = refl
  own_asked l a (Binary p o d e) = binary_asked o
  own_asked l a (Join p u d e) = refl
  own_asked l a (If p c d e) = either_asked (own s l d) (own s l e) (own_asked l a d) (own_asked l a e)
  own_asked l a (Quant p u f d) = refl

  sides_types : (o : BinOp) → IsAsked sg (sides_asked o)
  sides_types bin.Iff = refl
  sides_types bin.Implies = refl
  sides_types bin.Or = refl
  sides_types bin.And = refl
  sides_types bin.Eq = tt
  sides_types bin.Ne = tt
  sides_types bin.Lt = refl
  sides_types bin.Le = tt
  sides_types bin.Gt = refl
  sides_types bin.Ge = refl
  sides_types bin.Add = refl
  sides_types bin.Sub = refl
  sides_types bin.Mul = refl

  finite_named : (p : Span) (m : Meaning) → IsMeant sg [] m → type_name_rules p m ≡ [] → IsTrue (is_finite sg (declared_type m))
  finite_named p meaning_.Nothing i h = cc
  finite_named p (meaning_.Variable k t) i h = cc
  finite_named p (meaning_.Shared (entity.Declared t)) i h = i
  finite_named p (meaning_.Shared (entity.Member t k)) i h = cc
  finite_named p (meaning_.Shared (entity.Param t)) i h = cc
  finite_named p (meaning_.Shared (entity.Definition t)) i h = cc
  finite_named p (meaning_.Shared (entity.Function t)) i h = cc
  finite_named p (meaning_.Shared (entity.Level t)) i h = cc

  pub finite : (t : TypeTree) → type_rules s t ≡ [] → IsTrue (is_finite sg (type_of s t))
  finite (typing.Boolean p) h = refl
  finite (typing.Integer p) h = cc
  finite (typing.Level p) h = refl
  finite (typing.Named x) h = finite_named x.span (shared_of (see s x.name)) (w.shared x.name) h

  pub finite_type : (t : Ty) → IsTrue (is_finite sg t) → IsTrue (is_type sg t)
  finite_type ty.Boolean h = refl
  finite_type ty.Integer h = cc
  finite_type ty.Level h = refl
  finite_type (ty.Member k) h = h

  pub formal_types : (l : List Local) (f : FormalTree) → types (with_formal s l f) ≡ types l ++ type_of s f.ty ∷ []
  formal_types l f = types-append l (record { name = f.name.name; ty = type_of s f.ty } ∷ [])

  pub with_types : (l : List Local) (f : FormalTree) → AreTypes sg l → type_rules s f.ty ≡ [] → AreTypes sg (with_formal s l f)
  with_types l f a h = are-append sg l (record { name = f.name.name; ty = type_of s f.ty } ∷ []) a (finite_type (type_of s f.ty) (finite f.ty h), tt)

  module _ (xs : List Ty) where
    call_param : (k : ℕ) (ds : Trees) (h : Head) (t : Ty) → param_at s k ≡ Some h → sort_type h.sort ≡ Some t → HaveTypes sg xs ds (types h.formals) → HasType sg xs (core.Param k ds) t
    call_param k ds h t e i args =
        let r = w.params k h e in
        let q : r.0.ty ≡ t = same_some (sort_type h.sort) r.0.ty t r.2.result i in
        (r.0, r.1, q, subst (HaveTypes sg xs ds) (sym r.2.formals) args)

    call_function : (k : ℕ) (ds : Trees) (h : Head) (t : Ty) → function_at s k ≡ Some h → sort_type h.sort ≡ Some t → HaveTypes sg xs ds (types h.formals) → HasType sg xs (core.Look k ds) t
    call_function k ds h t e i args = let r = w.functions k h e in (r.0, r.1, head-result h r.0 r.2 ∙ i, subst (HaveTypes sg xs ds) (sym r.2.formals) args)

    call_new : (k : ℕ) (ds : Trees) (h : Head) (t : Ty) → function_at s k ≡ Some h → primitive_sort h.sort ≡ Some t → HaveTypes sg xs ds (types h.formals) → HasType sg xs (core.New k ds) t
    call_new k ds h t e i args = let r = w.functions k h e in (r.0, r.1, head-primitive h r.0 r.2 ∙ i, subst (HaveTypes sg xs ds) (sym r.2.formals) args)

    call_definition : (k : ℕ) (ds : Trees) (h : Head) (t : Ty) → nat_lt k (length s.cores) ≡ true → definition_at s k ≡ Some h → sort_type h.sort ≡ Some t → HaveTypes sg xs ds (types h.formals) → HasType sg xs (expanded (length xs) ds (slice_get s.cores k)) t
    call_definition k ds h t b e i args =
        let c = some_at s.cores k b in
        subst (λ o. HasType sg xs (expanded (length xs) ds o) t) (sym c.1) (put_typed sg (tree c.0) xs (types h.formals) ds t args (w.definitions k h c.0 t e c.1 i))

    -- a call whose name breaks no rule, at arguments of its head's types
    call_fits : (m : Meaning) (p r : Span) (ds : Trees) → called_rules s p r m ≡ [] → ((h : Head) → head_of s m ≡ Some h → HaveTypes sg xs ds (types h.formals)) → (t : Ty) × (type_of_head (head_of s m) ≡ Some t) × HasType sg xs (call_core s (length xs) m ds) t
    call_fits meaning_.Nothing p r ds k args = cc
    call_fits (meaning_.Variable n t) p r ds k args = cc
    call_fits (meaning_.Shared (entity.Declared n)) p r ds k args = cc
    call_fits (meaning_.Shared (entity.Member n j)) p r ds k args = cc
    call_fits (meaning_.Shared (entity.Level n)) p r ds k args = cc
    call_fits (meaning_.Shared (entity.Param n)) p r ds k args = let d = some_typed p (param_at s n) k in (d.1, ap type_of_head d.2 ∙ d.3, call_param n ds d.0 d.1 d.2 d.3 (args d.0 d.2))
    call_fits (meaning_.Shared (entity.Function n)) p r ds k args = let d = some_typed p (function_at s n) k in (d.1, ap type_of_head d.2 ∙ d.3, call_function n ds d.0 d.1 d.2 d.3 (args d.0 d.2))
    call_fits (meaning_.Shared (entity.Definition n)) p r ds k args = by (nat_lt n (length s.cores)) refl k
      where
        by : (b : Bool) → nat_lt n (length s.cores) ≡ b → (if b then typed_rule p (type_of_head (definition_at s n)) else breaks r rule.Cyclic) ≡ [] → (t : Ty) × (type_of_head (definition_at s n) ≡ Some t) × HasType sg xs (expanded (length xs) ds (slice_get s.cores n)) t
        by false e k = cc
        by true e k = let d = some_typed p (definition_at s n) k in (d.1, ap type_of_head d.2 ∙ d.3, call_definition n ds d.0 d.1 e d.2 d.3 (args d.0 d.2))

    primitive_type_of : (h : Head) (t : Ty) → primitive_sort h.sort ≡ Some t → sort_type h.sort ≡ Some t
    primitive_type_of h t k = grind (arith, rules)

    new_fits : (i : Site) (m : Meaning) (p q : Span) (ds : Trees) → IsKept i → quoted_rules s p m ≡ [] → quote_rules i q (head_of s m) ≡ [] → ((h : Head) → head_of s m ≡ Some h → HaveTypes sg xs ds (types h.formals)) → (t : Ty) × (type_of_head (head_of s m) ≡ Some t) × HasType sg xs (new_core m ds) t
    new_fits i meaning_.Nothing p q ds kept k j args = cc
    new_fits i (meaning_.Variable n t) p q ds kept k j args = cc
    new_fits i (meaning_.Shared (entity.Declared n)) p q ds kept k j args = cc
    new_fits i (meaning_.Shared (entity.Member n r)) p q ds kept k j args = cc
    new_fits i (meaning_.Shared (entity.Level n)) p q ds kept k j args = cc
    new_fits i (meaning_.Shared (entity.Param n)) p q ds kept k j args = cc
    new_fits i (meaning_.Shared (entity.Definition n)) p q ds kept k j args = cc
    new_fits i (meaning_.Shared (entity.Function n)) p q ds kept k j args =
        let d = quoted i q (function_at s n) kept j in
        (d.1, ap type_of_head d.2 ∙ primitive_type_of d.0 d.1 d.3, call_new n ds d.0 d.1 d.2 d.3 (args d.0 d.2))

    ordered_either : (p q : Span) (t u : Option Ty) (v : Ty) → ordered p t ≡ [] → ordered q u ≡ [] → either_type t u ≡ Some v → (r : Span) × (ordered r (Some v) ≡ [])
    ordered_either p q None u v h k e = (q, subst (λ u. ordered q u ≡ []) e k)
    ordered_either p q (Some t) u v h k e = (p, subst (λ u. ordered p u ≡ []) e h)

    le_typed : (p : Span) (v : Ty) (a b : Tree) → ordered p (Some v) ≡ [] → HasType sg xs a v → HasType sg xs b v → HasType sg xs (core.Two (le_op (Some v)) a b) ty.Boolean
    le_typed p ty.Boolean a b h x y = cc
    le_typed p ty.Integer a b h x y = (ty.Integer, (refl, refl), x, y)
    le_typed p ty.Level a b h x y = (ty.Level, (refl, refl), x, y)
    le_typed p (ty.Member k) a b h x y = cc

    same_typed : (p q r v : Span) (t u : Option Ty) (a b : Tree) → IsAsked sg t → IsAsked sg u → one_type p q r t u ++ no_type v t u ≡ [] → Fits sg xs None t a → Fits sg xs None u b → HasType sg xs (core.Two op.Same a b) ty.Boolean
    same_typed p q r v t u a b i j h x y = let z = fits_sides sg xs p q r v t u a b i j h x y in (z.0, refl, z.2, z.3)

    binary_typed : (l : List Local) (o : BinOp) (p : Span) (d e : Text) (t u : Option Ty) (a b : Tree) → IsAsked sg t → IsAsked sg u → sides_rules s l o p d e t u ≡ [] → Fits sg xs (sides_asked o) t a → Fits sg xs (sides_asked o) u b → HasType sg xs (binary_core o (either_type t u) a b) (binary_type o)
    binary_typed l bin.Iff p d e t u a b i j h x y = (ty.Boolean, refl, x, y)
    binary_typed l bin.Implies p d e t u a b i j h x y = (ty.Boolean, (refl, refl), (refl, x), y)
    binary_typed l bin.Or p d e t u a b i j h x y = (ty.Boolean, (refl, refl), x, y)
    binary_typed l bin.And p d e t u a b i j h x y = (ty.Boolean, (refl, refl), x, y)
    binary_typed l bin.Eq p d e t u a b i j h x y = same_typed (hole d) (hole e) (span e) p t u a b i j h x y
    binary_typed l bin.Ne p d e t u a b i j h x y = (refl, same_typed (hole d) (hole e) (span e) p t u a b i j h x y)
    binary_typed l bin.Lt p d e t u a b i j h x y = (ty.Integer, (refl, refl), x, y)
    binary_typed l bin.Le p d e t u a b i j h x y =
        let o = append_left (ordered (typed_part s l d) t ++ ordered (typed_part s l e) u) (one_type (hole d) (hole e) (span e) t u ++ no_type p t u) h in
        let z = fits_sides sg xs (hole d) (hole e) (span e) p t u a b i j (append_right (ordered (typed_part s l d) t ++ ordered (typed_part s l e) u) (one_type (hole d) (hole e) (span e) t u ++ no_type p t u) h) x y in
        let r = ordered_either (typed_part s l d) (typed_part s l e) t u z.0 (append_left (ordered (typed_part s l d) t) (ordered (typed_part s l e) u) o) (append_right (ordered (typed_part s l d) t) (ordered (typed_part s l e) u) o) z.1 in
        subst (λ v. HasType sg xs (core.Two (le_op v) a b) ty.Boolean) (sym z.1) (le_typed r.0 z.0 a b r.1 z.2 z.3)
    binary_typed l bin.Gt p d e t u a b i j h x y = (ty.Integer, (refl, refl), y, x)
    binary_typed l bin.Ge p d e t u a b i j h x y = (ty.Integer, (refl, refl), y, x)
    binary_typed l bin.Add p d e t u a b i j h x y = (ty.Integer, (refl, refl), x, y)
    binary_typed l bin.Sub p d e t u a b i j h x y = (ty.Integer, (refl, refl), x, y)
    binary_typed l bin.Mul p d e t u a b i j h x y = (ty.Integer, (refl, refl), x, y)

    join_typed : (u : Bool) (a b : Tree) → HasType sg xs a ty.Level → HasType sg xs b ty.Level → HasType sg xs (core.Two (join_op u) a b) ty.Level
    join_typed true a b x y = (ty.Level, (refl, refl), x, y)
    join_typed false a b x y = (ty.Level, (refl, refl), x, y)

    if_fits : (o : Option Ty) (c a b : Tree) → HasType sg xs c ty.Boolean → Fits sg xs None o a → Fits sg xs None o b → Fits sg xs None o (core.If c a b)
    if_fits None c a b x y z = λ t i u. (x, y t i u, z t i u)
    if_fits (Some t) c a b x y z = (x, y, z)

    quant_typed : (u : Bool) (t : Ty) (b : Tree) → IsTrue (is_finite sg t) → HasType sg (xs ++ t ∷ []) b ty.Boolean → HasType sg xs (quant_core u (length xs) t b) ty.Boolean
    quant_typed true t b h x = (refl, refl, h, x)
    quant_typed false t b h x = (refl, (refl, refl, h, (refl, x)))

    result_fits : (q : Option Ty) (p : Span) (o : Option Ty) (t : Ty) (e : Tree) → o ≡ Some t → result_rule q p o ≡ [] → HasType sg xs e t → Fits sg xs q o e
    result_fits q p None t e i h d = cc
    result_fits q p (Some u) t e i h d = fits_fixed sg xs q p u e h (subst (HasType sg xs e) (let z : t ≡ u = cc in z) d)

  pub asked_all : (h : Head) (n : ℕ) (p : Span) → count_rule p (Some h) n ≡ [] → (asked_of (Some h) n ≡ h.formals) × (length h.formals ≡ n)
  asked_all h n p k = by (nat_eq (length h.formals) n) refl k
    where
      by : (b : Bool) → nat_eq (length h.formals) n ≡ b → (if b then [] else breaks p rule.WrongCount) ≡ [] → ((if b then h.formals else []) ≡ h.formals) × (length h.formals ≡ n)
      by true e k = (refl, grind (arith, rules))
      by false e k = cc

  -- the arguments of a call with this head, where those of all formals are known
  args_typed : (i : Site) (l : List Local) (m : Meaning) (h : Head) → head_of s m ≡ Some h → (p : Span) (ds : Texts) → all_broken s i l (asked_of (head_of s m) (count ds)) ds ≡ [] → count_rule p (head_of s m) (count ds) ≡ []
      → ((fs : List Local) → AreTypes sg fs → length fs ≡ count ds → all_broken s i l fs ds ≡ [] → HaveTypes sg (types l) (translations s l ds) (types fs)) → HaveTypes sg (types l) (translations s l ds) (types h.formals)
  args_typed i l m h e p ds k c all =
      let z = asked_all h (count ds) p (subst (λ o. count_rule p o (count ds) ≡ []) e c) in
      all h.formals (is_head m h e).formals z.1 (subst (λ fs. all_broken s i l fs ds ≡ []) (ap (λ o. asked_of o (count ds)) e ∙ z.0) k)

  mutual
    pub typed : (i : Site) → IsKept i → (l : List Local) → AreTypes sg l → (q : Option Ty) → IsAsked sg q → (e : Text) → AreNumbers e → broken s i l q e ≡ [] → Fits sg (types l) q (own s l e) (translation s l e)
    typed i kept l a q g (Name p x) n h = fits_name sg (types l) q p (meaning s l x) (meaning_meant sg s w l a x) h
    typed i kept l a q g (Number p m) n h = fits_fixed sg (types l) q p ty.Integer _ h n
    typed i kept l a q g (Truth p b) n h = fits_fixed sg (types l) q p ty.Boolean _ h refl
    typed i kept l a q g (Unknown p) n h = fits_unknown sg (types l) q p g h
    typed i kept l a q g (Bottom p) n h = fits_fixed sg (types l) q p ty.Level _ h w.bottom
    typed i kept l a q g (Top p) n h = fits_fixed sg (types l) q p ty.Level _ h w.top
    typed i kept l a q g (Call p f ds) n h =
        let m = meaning s l f.name in
        let as' = all_broken s i l (asked_of (head_of s m) (count ds)) ds in
        let c = count_rule f.span (head_of s m) (count ds) in
        let r = result_rule q p (type_of_head (head_of s m)) in
        let inner : behind (called_rules s f.span p m ++ as') c ≡ [] = behind_inner (behind (called_rules s f.span p m ++ as') c) r h in
        let both : called_rules s f.span p m ++ as' ≡ [] = behind_inner (called_rules s f.span p m ++ as') c inner in
        let z = call_fits (types l) m f.span p (translations s l ds) (append_left (called_rules s f.span p m) as' both)
        (λ d e. args_typed i l m d e f.span ds (append_right (called_rules s f.span p m) as' both) (behind_own (called_rules s f.span p m ++ as') c inner) (λ fs b e h. all_typed i kept l a fs b ds n e h)) in
        result_fits (types l) q p (type_of_head (head_of s m)) z.0 (call_core s (length l) m (translations s l ds)) z.1 (behind_own (behind (called_rules s f.span p m ++ as') c) r h)
        (subst (λ k. HasType sg (types l) (call_core s k m (translations s l ds)) z.0) (types-length l) z.2)
    typed i kept l a q g (New p f ds) n h =
        let m = meaning s l f.name in
        let as' = all_broken s i l (asked_of (head_of s m) (count ds)) ds in
        let c = count_rule f.span (head_of s m) (count ds) in
        let r = result_rule q p (type_of_head (head_of s m)) in
        let v = quote_rules i p (head_of s m) in
        let inner : behind (quoted_rules s f.span m ++ as') c ≡ [] = behind_inner (behind (quoted_rules s f.span m ++ as') c) (r ++ v) h in
        let both : quoted_rules s f.span m ++ as' ≡ [] = behind_inner (quoted_rules s f.span m ++ as') c inner in
        let own' : r ++ v ≡ [] = behind_own (behind (quoted_rules s f.span m ++ as') c) (r ++ v) h in
        let z = new_fits (types l) i m f.span p (translations s l ds) kept (append_left (quoted_rules s f.span m) as' both) (append_right r v own')
        (λ d e. args_typed i l m d e f.span ds (append_right (quoted_rules s f.span m) as' both) (behind_own (quoted_rules s f.span m ++ as') c inner) (λ fs b e h. all_typed i kept l a fs b ds n e h)) in
        result_fits (types l) q p (type_of_head (head_of s m)) z.0 (new_core m (translations s l ds)) z.1 (append_left r v own') z.2
    typed i kept l a q g (Paren p d) n h = typed i kept l a q g d n h
    typed i kept l a q g (Not p d) n h =
        let x = typed i kept l a (Some ty.Boolean) refl d n (behind_inner (broken s i l (Some ty.Boolean) d) (asks q p ty.Boolean) h) in
        fits_fixed sg (types l) q p ty.Boolean (core.Not (translation s l d)) (behind_own (broken s i l (Some ty.Boolean) d) (asks q p ty.Boolean) h) (refl, x)
    typed i kept l a q g (Binary p o d e) n h =
        let left = broken s i l (sides_asked o) d in
        let right = broken s i l (sides_asked o) e in
        let sides = sides_rules s l o p d e (own s l d) (own s l e) in
        let inner : behind (left ++ right) sides ≡ [] = behind_inner (behind (left ++ right) sides) (asks q p (binary_type o)) h in
        let both : left ++ right ≡ [] = behind_inner (left ++ right) sides inner in
        let x = typed i kept l a (sides_asked o) (sides_types o) d n.0 (append_left left right both) in
        let y = typed i kept l a (sides_asked o) (sides_types o) e n.1 (append_right left right both) in
        fits_fixed sg (types l) q p (binary_type o) (binary_core o (either_type (own s l d) (own s l e)) (translation s l d) (translation s l e)) (behind_own (behind (left ++ right) sides) (asks q p (binary_type o)) h)
        (binary_typed (types l) l o p d e (own s l d) (own s l e) (translation s l d) (translation s l e) (own_asked l a d) (own_asked l a e) (behind_own (left ++ right) sides inner) x y)
    typed i kept l a q g (Join p u d e) n h =
        let left = broken s i l (Some ty.Level) d in
        let right = broken s i l (Some ty.Level) e in
        let both : left ++ right ≡ [] = behind_inner (left ++ right) (asks q p ty.Level) h in
        let x = typed i kept l a (Some ty.Level) refl d n.0 (append_left left right both) in
        let y = typed i kept l a (Some ty.Level) refl e n.1 (append_right left right both) in
        fits_fixed sg (types l) q p ty.Level (translation s l (Join p u d e)) (behind_own (left ++ right) (asks q p ty.Level) h) (join_typed (types l) u (translation s l d) (translation s l e) x y)
    typed i kept l a None g (If p c d e) n h =
        let k = broken s i l (Some ty.Boolean) c in
        let left = broken s i l None d in
        let right = broken s i l None e in
        let branches = branch_rules None d e (own s l d) (own s l e) in
        let all : k ++ (left ++ right) ≡ [] = behind_inner (k ++ (left ++ right)) branches h in
        let both : left ++ right ≡ [] = append_right k (left ++ right) all in
        let x = typed i kept l a (Some ty.Boolean) refl c n.0 (append_left k (left ++ right) all) in
        let y = typed i kept l a None tt d n.1 (append_left left right both) in
        let z = typed i kept l a None tt e n.2 (append_right left right both) in
        let v = fits_branches sg (types l) (hole d) (hole e) (span e) (own s l d) (own s l e) (translation s l d) (translation s l e) (own_asked l a d) (own_asked l a e) (behind_own (k ++ (left ++ right)) branches h) y z in
        if_fits (types l) (either_type (own s l d) (own s l e)) (translation s l c) (translation s l d) (translation s l e) x v.0 v.1
    typed i kept l a (Some t) g (If p c d e) n h =
        let k = broken s i l (Some ty.Boolean) c in
        let left = broken s i l (Some t) d in
        let right = broken s i l (Some t) e in
        let all : k ++ (left ++ right) ≡ [] = behind_inner (k ++ (left ++ right)) (branch_rules (Some t) d e (own s l d) (own s l e)) h in
        let both : left ++ right ≡ [] = append_right k (left ++ right) all in
        (typed i kept l a (Some ty.Boolean) refl c n.0 (append_left k (left ++ right) all), typed i kept l a (Some t) g d n.1 (append_left left right both), typed i kept l a (Some t) g e n.2 (append_right left right both))
    typed i kept l a q g (Quant p u f b) n h =
        let m = with_formal s l f in
        let body = broken s i m (Some ty.Boolean) b in
        let inner : behind (formal_rules s l f) body ≡ [] = behind_inner (behind (formal_rules s l f) body) (asks q p ty.Boolean) h in
        let rules' : type_rules s f.ty ≡ [] = append_left (type_rules s f.ty) (twice_rule l f) (behind_inner (formal_rules s l f) body inner) in
        let x = typed i kept m (with_types l f a rules') (Some ty.Boolean) refl b n (behind_own (formal_rules s l f) body inner) in
        fits_fixed sg (types l) q p ty.Boolean (quant_core u (length l) (type_of s f.ty) (translation s m b)) (behind_own (behind (formal_rules s l f) body) (asks q p ty.Boolean) h)
        (subst (λ k. HasType sg (types l) (quant_core u k (type_of s f.ty) (translation s m b)) ty.Boolean) (types-length l)
        (quant_typed (types l) u (type_of s f.ty) (translation s m b) (finite f.ty rules') (subst (λ z. HasType sg z (translation s m b) ty.Boolean) (formal_types l f) x)))

    all_typed : (i : Site) → IsKept i → (l : List Local) → AreTypes sg l → (fs : List Local) → AreTypes sg fs → (ds : Texts) → AreNumbersIn ds → length fs ≡ count ds → all_broken s i l fs ds ≡ [] → HaveTypes sg (types l) (translations s l ds) (types fs)
    all_typed i kept l a [] b none n e h = tt
    all_typed i kept l a (f ∷ fs) b none n e h = absurd (omega (arith, e))
    all_typed i kept l a [] b (more d ds) n e h = absurd (omega (arith, e))
    all_typed i kept l a (f ∷ fs) b (more d ds) n e h =
        let one = broken s i l (Some f.ty) d in
        let others = all_broken s i l fs ds in
        (typed i kept l a (Some f.ty) b.0 d n.0 (append_left one others h), all_typed i kept l a fs b.1 ds n.1 (omega (arith, e)) (append_right one others h))
