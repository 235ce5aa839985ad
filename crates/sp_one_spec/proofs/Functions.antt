-- A text stands for one assertion or function at most, and texts for one list of them.
use Rattle.std.proofs.Common.{◌≡◌, refl, sym, ◌∙◌, ap, ℕ, suc, List, [], ◌∷◌, Option, Some, None}
use Rattle.sp_tree.specs.declared.expr.ExprTree.{ExprTree}
use Rattle.sp_tree.specs.declared.interface.Equation.{Equation}
use Rattle.sp_tree.specs.declared.module.Body.{Body}
use Rattle.sp_tree.specs.declared.module.Body.TheVariants as body
use Rattle.sp_tree.specs.declared.module.FunDecl.{FunDecl}
use Rattle.sp_tree.specs.declared.names.Ident.{Ident}
use Rattle.sp_core.specs.declared.expr.Expr.{Expr}
use Rattle.sp_core.specs.declared.function.Assertion.{Assertion}
use Rattle.sp_core.specs.declared.function.Effect.{Effect}
use Rattle.sp_core.specs.declared.function.Function.{Function}
use Rattle.sp_core.specs.declared.function.Kind.{Kind}
use Rattle.sp_core.specs.declared.function.Kind.TheVariants as kind
use Rattle.sp_core.specs.Tree.{Tree}
use Rattle.sp_plain.specs.Text.{Text, text}
use Rattle.sp_scopes.specs.declared.heads.Head.{Head}
use Rattle.sp_scopes.specs.declared.heads.Local.{Local}
use Rattle.sp_scopes.specs.declared.heads.Sort.{Sort}
use Rattle.sp_scopes.specs.declared.heads.Sort.TheVariants as sort
use Rattle.sp_judge.specs.Visible.{Visible, function_at}
use Rattle.sp_elaborate.specs.Expressions.{expression_of}
use Rattle.sp_elaborate.proofs.Expressions.{one_expression}
use Rattle.sp_effects.specs.EffectCore.{effects_core}
use Rattle.sp_functions.specs.Assertions.{IsAssertionOf, below, leading}
use Rattle.sp_functions.specs.Exceptions.{AreExceptionsOf, IsExceptionOf}
use Rattle.sp_functions.specs.Judged.{made}
use Rattle.sp_specification.specs.Ends.{equation_of, level_tree}
use Rattle.sp_specification.specs.Functions.{IsFunctionOf, IsKindOf, answer_of, head_type, texts}
use Rattle.sp_specification.specs.Meaning.{AreAssertions, AreFunctions, IsLevelled}
use Rattle.sp_one_spec.proofs.Effects.{effects_in, one_effects, one_tree}

-- Assertions

one_assertion : (s : Visible) (e : Text) (a b : Assertion) → IsAssertionOf s e a → IsAssertionOf s e b → a ≡ b
one_assertion s e a b h k =
    let vars : a.vars ≡ b.vars = h.vars ∙ sym k.vars in
    let bodies : a.body ≡ b.body = one_tree a.body b.body (made s (leading s [] e) (below e)) h.body k.body in
    λ i. record { vars = vars i; body = bodies i }

pub one_assertions : (see : ℕ → Visible) (es : List (ℕ × ExprTree)) (as' bs : List Assertion) → AreAssertions see es as' → AreAssertions see es bs → as' ≡ bs
one_assertions see [] [] [] h k = refl
one_assertions see [] [] (b ∷ bs) h k = absurd k
one_assertions see [] (a ∷ as') bs h k = absurd h
one_assertions see (e ∷ es) [] bs h k = absurd h
one_assertions see (e ∷ es) (a ∷ as') [] h k = absurd k
one_assertions see (e ∷ es) (a ∷ as') (b ∷ bs) h k =
    ap (λ x. x ∷ as') (one_assertion (see e.0) (text e.1) a b h.0 k.0) ∙ ap (λ xs. b ∷ xs) (one_assertions see es as' bs h.1 k.1)

-- Functions

one_exception : (s : Visible) (l : List Local) (x : Ident × ExprTree) (e f : List ℕ × Expr) → IsExceptionOf s l x e → IsExceptionOf s l x f → e ≡ f
one_exception s l x e f h k =
    let names : e.0 ≡ f.0 = h.name ∙ sym k.name in
    let conditions : e.1 ≡ f.1 = one_tree e.1 f.1 (made s l (text x.1)) h.condition k.condition in
    λ i. (names i, conditions i)

one_exceptions : (s : Visible) (l : List Local) (xs : List (Ident × ExprTree)) (es fs : List (List ℕ × Expr)) → AreExceptionsOf s l xs es → AreExceptionsOf s l xs fs → es ≡ fs
one_exceptions s l [] [] [] h k = refl
one_exceptions s l [] [] (f ∷ fs) h k = absurd k
one_exceptions s l [] (e ∷ es) fs h k = absurd h
one_exceptions s l (x ∷ xs) [] fs h k = absurd h
one_exceptions s l (x ∷ xs) (e ∷ es) [] h k = absurd k
one_exceptions s l (x ∷ xs) (e ∷ es) (f ∷ fs) h k =
    ap (λ y. y ∷ es) (one_exception s l x e f h.0 k.0) ∙ ap (λ ys. f ∷ ys) (one_exceptions s l xs es fs h.1 k.1)

-- the kind of a function with effects, by the sort of its head
abbrev worked : Sort → List Effect → Kind
worked (sort.Both t) ws = kind.Both t ws
worked z ws = kind.Operation ws

-- the core effects of effects
abbrev effects_made : Visible → Head → Option Ident → Body → List Effect
effects_made s h o (body.Effects ws) = effects_in (effects_core s (answer_of h.sort o) h.formals (texts ws))
effects_made s h o b = []

-- the kind that a body makes
abbrev kind_made : Visible → Head → Option Ident → Body → Kind
kind_made s h o (body.Initially e) = kind.Primitive (head_type h.sort) (expression_of (made s h.formals (text e)))
kind_made s h o (body.Derivation e) = kind.Derived (head_type h.sort) (expression_of (made s h.formals (text e)))
kind_made s h o (body.Effects ws) = worked h.sort (effects_made s h o (body.Effects ws))

made_kind : (s : Visible) (h : Head) (o : Option Ident) (b : Body) (k : Kind) → IsKindOf s h o b k → k ≡ kind_made s h o b
made_kind s h o (body.Initially e) (kind.Primitive t x) is =
    ap (kind.Primitive t) (one_expression x (made s h.formals (text e)) is.1) ∙ ap (λ u. kind.Primitive u (expression_of (made s h.formals (text e)))) (sym (ap head_type is.0))
made_kind s h o (body.Initially e) (kind.Derived t x) is = absurd is
made_kind s h o (body.Initially e) (kind.Operation es) is = absurd is
made_kind s h o (body.Initially e) (kind.Both t es) is = absurd is
made_kind s h o (body.Derivation e) (kind.Primitive t x) is = absurd is
made_kind s h o (body.Derivation e) (kind.Derived t x) is =
    ap (kind.Derived t) (one_expression x (made s h.formals (text e)) is.1) ∙ ap (λ u. kind.Derived u (expression_of (made s h.formals (text e)))) (sym (ap head_type is.0))
made_kind s h o (body.Derivation e) (kind.Operation es) is = absurd is
made_kind s h o (body.Derivation e) (kind.Both t es) is = absurd is
made_kind s h o (body.Effects ws) (kind.Primitive t x) is = absurd is
made_kind s h o (body.Effects ws) (kind.Derived t x) is = absurd is
made_kind s h o (body.Effects ws) (kind.Operation es) is =
    ap kind.Operation (one_effects es (effects_core s (answer_of h.sort o) h.formals (texts ws)) is.1)
    ∙ ap (λ z. worked z (effects_made s h o (body.Effects ws))) (sym is.0)
made_kind s h o (body.Effects ws) (kind.Both t es) is =
    ap (kind.Both t) (one_effects es (effects_core s (answer_of h.sort o) h.formals (texts ws)) is.1)
    ∙ ap (λ z. worked z (effects_made s h o (body.Effects ws))) (sym is.0)

one_function : (s : Visible) (h : Head) (x : FunDecl) (l : Tree) (f g : Function) → IsFunctionOf s h x l f → IsFunctionOf s h x l g → f ≡ g
one_function s h x l f g is other =
    let names : f.name ≡ g.name = is.name ∙ sym other.name in
    let seen : f.visible ≡ g.visible = is.visible ∙ sym other.visible in
    let formals : f.formals ≡ g.formals = is.formals ∙ sym other.formals in
    let exceptions : f.exceptions ≡ g.exceptions = one_exceptions s h.formals x.exceptions f.exceptions g.exceptions is.exceptions other.exceptions in
    let kinds : f.kind ≡ g.kind = made_kind s h x.head.result x.body f.kind is.kind ∙ sym (made_kind s h x.head.result x.body g.kind other.kind) in
    let levels : f.level ≡ g.level = one_tree f.level g.level l is.level other.level in
    λ i. record { name = names i; visible = seen i; formals = formals i; exceptions = exceptions i; kind = kinds i; level = levels i }

one_levelled : (s t : Visible) (h : Option Head) (q : Option Equation) (x : FunDecl) (f g : Function) → IsLevelled s t h q x f → IsLevelled s t h q x g → f ≡ g
one_levelled s t None q x f g is other = absurd is
one_levelled s t (Some h) None x f g is other = absurd is
one_levelled s t (Some h) (Some q) x f g is other = one_function s h x (level_tree t q) f g is other

pub one_functions : (see : ℕ → Visible) (t : Visible) (qs : List Equation) (n : ℕ) (xs : List (ℕ × FunDecl)) (fs gs : List Function) →
    AreFunctions see t qs n xs fs → AreFunctions see t qs n xs gs → fs ≡ gs
one_functions see t qs n [] [] [] h k = refl
one_functions see t qs n [] [] (g ∷ gs) h k = absurd k
one_functions see t qs n [] (f ∷ fs) gs h k = absurd h
one_functions see t qs n (x ∷ xs) [] gs h k = absurd h
one_functions see t qs n (x ∷ xs) (f ∷ fs) [] h k = absurd k
one_functions see t qs n (x ∷ xs) (f ∷ fs) (g ∷ gs) h k =
    ap (λ y. y ∷ fs) (one_levelled (see x.0) t (function_at t n) (equation_of t qs n) x.1 f g h.0 k.0) ∙ ap (λ ys. g ∷ ys) (one_functions see t qs (suc n) xs fs gs h.1 k.1)
