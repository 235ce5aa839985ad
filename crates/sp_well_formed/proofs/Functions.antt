-- A function that breaks nothing, with its level, is well-formed.
use Rattle.std.proofs.Common.{◌≡◌, refl, sym, ◌∙◌, ap, subst, rules, arith, ℕ, ◌+◌, ◌≤◌, List, [], ◌∷◌, ◌++◌, Option, Some, length, map}
use Rattle.std.specs.Prelude.{IsTrue, if◌then◌else◌, nat_eq, nat_lt, sum_by}
use Rattle.std.specs.List.{All}
use Rattle.std.proofs.lemmas.List.Elements.{All-cons, All-nil}
use Rattle.std.proofs.lemmas.List.Sums.{sum_by-cons}
use Rattle.sp_text.specs.declared.fault.Quantity.TheVariants as quantity
use Rattle.sp_text.specs.declared.fault.Rule.TheVariants as rule
use Rattle.sp_text.specs.declared.fault.Span.{Span}
use Rattle.sp_text.specs.declared.limits.TheConstants.{MOST_ARGUMENTS, MOST_DERIVATION_DEPTH, MOST_FUNCTION_NODES}
use Rattle.sp_text.specs.Firsts.{behind}
use Rattle.sp_text.specs.Violations.{breaks, exceeds}
use Rattle.sp_values.specs.declared.value.Ty.TheVariants as ty
use Rattle.sp_tree.specs.declared.expr.ExprTree.{ExprTree}
use Rattle.sp_tree.specs.declared.interface.Equation.{Equation}
use Rattle.sp_tree.specs.declared.module.Body.{Body}
use Rattle.sp_tree.specs.declared.module.Body.TheVariants as body
use Rattle.sp_tree.specs.declared.module.FunDecl.{FunDecl}
use Rattle.sp_tree.specs.declared.names.Ident.{Ident}
use Rattle.sp_core.specs.declared.expr.Expr.{Expr}
use Rattle.sp_core.specs.declared.function.Function.{Function}
use Rattle.sp_core.specs.declared.function.Kind.{Kind}
use Rattle.sp_core.specs.declared.function.Kind.TheVariants as kind
use Rattle.sp_core.specs.Machine.{types_of}
use Rattle.sp_core.specs.Measures.{IsWithinDepth, effect_nodes_in, function_nodes, kind_nodes, nodes}
use Rattle.sp_core.specs.Tree.{Tree, tree}
use Rattle.sp_core.specs.Typing.{Signature, is_type}
use Rattle.sp_core.specs.WellFormed.{AreFormals, IsBoth, IsExpression, IsFunction, IsKind, IsLevel, IsOperation}
use Rattle.sp_plain.specs.Text.{text}
use Rattle.sp_naming.specs.Names.{repeated_names}
use Rattle.sp_scopes.specs.declared.heads.Head.{Head}
use Rattle.sp_scopes.specs.declared.heads.Local.{Local}
use Rattle.sp_judge.specs.Broken.{count_rule}
use Rattle.sp_judge.specs.Visible.{Visible, see}
use Rattle.sp_typed.specs.Fits.{any_type, types, AreNumbers, AreTypes, IsAsked}
use Rattle.sp_typed.proofs.Fitting.{append_left, append_right, behind_inner, behind_own}
use Rattle.sp_effects.specs.EffectCore.{effects_core}
use Rattle.sp_effects.specs.EffectRules.{body_broken}
use Rattle.sp_effect_laws.proofs.Results.{both, operation}
use Rattle.sp_functions.specs.Assertions.{formal_of}
use Rattle.sp_functions.specs.Equations.{equation_broken, formals_of, function_rule, head_of, locals_of, with_types}
use Rattle.sp_functions.specs.Exceptions.{AreExceptionsOf, exceptions_broken}
use Rattle.sp_functions.specs.Judged.{derivation_broken, initial_broken, level_broken}
use Rattle.sp_functions.specs.Laws.{IsSeenBy}
use Rattle.sp_functions.proofs.Known.{derivation, initial, level}
use Rattle.sp_functions.proofs.Names.{exceptions}
use Rattle.sp_specification.specs.Ends.{level_tree}
use Rattle.sp_specification.specs.Functions.{IsFunctionOf, IsKindOf, answer_of, body_nodes, condition_nodes, depth_broken, depth_of, function_broken, head_type, kind_broken, nodes_of, result_name, texts}
use Rattle.sp_specification.specs.Numbers.{IsBodyNumbered, IsFunctionNumbered}
use Rattle.sp_well_formed.proofs.Items.{map_length}

-- Formals

pub formal_types : (ls : List Local) → types_of (map formal_of ls) ≡ types ls
formal_types [] = refl
formal_types (l ∷ ls) = ap (λ z. l.ty ∷ z) (formal_types ls)

pub all_types : (sg : Signature) (ls : List Local) → AreTypes sg ls → All (λ t. IsTrue (is_type sg t)) (types ls)
all_types sg [] h = All-nil (λ t. IsTrue (is_type sg t))
all_types sg (l ∷ ls) h = All-cons (λ t. IsTrue (is_type sg t)) l.ty (types ls) h.0 (all_types sg ls h.1)

pub are_formals : (sg : Signature) (ls : List Local) → AreTypes sg ls → length ls ≤ MOST_ARGUMENTS → AreFormals sg (map formal_of ls)
are_formals sg ls h few = record {
  few = omega (arith, few, map_length formal_of ls);
  types = subst (All (λ t. IsTrue (is_type sg t))) (sym (formal_types ls)) (all_types sg ls h);
}

-- Levels

renamed : (xs : List Ident) (fs : List Local) → length fs ≡ length xs → types (with_types xs fs) ≡ types fs
renamed [] [] h = refl
renamed [] (f ∷ fs) h = absurd (omega (arith, h))
renamed (x ∷ xs) [] h = absurd (omega (arith, h))
renamed (x ∷ xs) (f ∷ fs) h = ap (λ z. f.ty ∷ z) (renamed xs fs (omega (arith, h)))

renamed_types : (sg : Signature) (xs : List Ident) (fs : List Local) → AreTypes sg fs → AreTypes sg (with_types xs fs)
renamed_types sg [] fs h = tt
renamed_types sg (x ∷ xs) [] h = tt
renamed_types sg (x ∷ xs) (f ∷ fs) h = (h.0, renamed_types sg xs fs h.1)

same_count : (p : Span) (n m : ℕ) → (if nat_eq n m then [] else breaks p rule.WrongCount) ≡ [] → n ≡ m
same_count p n m h = grind (arith, rules)

-- the level that an equation of a function with this head gives
pub level_fine : (sg : Signature) (t : Visible) → IsSeenBy sg t → (q : Equation) (h : Head) → head_of t q ≡ Some h → AreTypes sg h.formals →
    equation_broken t q ≡ [] → AreNumbers (text q.value) → (x : Expr) → tree x ≡ level_tree t q → IsLevel sg (types h.formals) (tree x)
level_fine sg t seen q h e a fine n x is =
    let names = function_rule q.name.span (see t q.name.name) ++ repeated_names [] q.formals in
    let counts = count_rule q.name.span (head_of t q) (length q.formals) in
    let own = level_broken t (locals_of t q) (text q.value) in
    let front = behind_inner (behind names counts) own fine in
    let count : length h.formals ≡ length q.formals = same_count q.name.span (length h.formals) (length q.formals) (subst (λ o. count_rule q.name.span o (length q.formals) ≡ []) e (behind_own names counts front)) in
    let locals : locals_of t q ≡ with_types q.formals h.formals = ap (λ o. with_types q.formals (formals_of o)) e in
    let typed = subst (AreTypes sg) (sym locals) (renamed_types sg q.formals h.formals a) in
    let y = level sg t seen (locals_of t q) typed (text q.value) n (behind_own (behind names counts) own fine) x is in
    subst (λ xs. IsLevel sg xs (tree x)) (ap types locals ∙ renamed q.formals h.formals count) y

-- Nodes

conditions_nodes : (s : Visible) (l : List Local) (xs : List (Ident × ExprTree)) (es : List (List ℕ × Expr)) → AreExceptionsOf s l xs es → sum_by (λ (e : List ℕ × Expr). nodes (tree e.1)) es ≡ sum_by (condition_nodes s l) xs
conditions_nodes s l [] [] h = refl
conditions_nodes s l [] (e ∷ es) h = absurd h
conditions_nodes s l (x ∷ xs) [] h = absurd h
conditions_nodes s l (x ∷ xs) (e ∷ es) h =
    sum_by-cons (λ (e : List ℕ × Expr). nodes (tree e.1)) e es ∙ (λ i. nodes (h.0.condition i) + conditions_nodes s l xs es h.1 i) ∙ sym (sum_by-cons (condition_nodes s l) x xs)

kinds_nodes : (s : Visible) (h : Head) (o : Option Ident) (b : Body) (k : Kind) → IsKindOf s h o b k → kind_nodes k ≡ body_nodes s h o b
kinds_nodes s h o (body.Initially e) (kind.Primitive t d) i = ap nodes i.1
kinds_nodes s h o (body.Derivation e) (kind.Derived t d) i = ap nodes i.1
kinds_nodes s h o (body.Effects ws) (kind.Operation es) i = ap effect_nodes_in i.1
kinds_nodes s h o (body.Effects ws) (kind.Both t es) i = ap effect_nodes_in i.1
kinds_nodes s h o (body.Initially e) (kind.Derived t d) i = absurd i
kinds_nodes s h o (body.Initially e) (kind.Operation es) i = absurd i
kinds_nodes s h o (body.Initially e) (kind.Both t es) i = absurd i
kinds_nodes s h o (body.Derivation e) (kind.Primitive t d) i = absurd i
kinds_nodes s h o (body.Derivation e) (kind.Operation es) i = absurd i
kinds_nodes s h o (body.Derivation e) (kind.Both t es) i = absurd i
kinds_nodes s h o (body.Effects ws) (kind.Primitive t d) i = absurd i
kinds_nodes s h o (body.Effects ws) (kind.Derived t d) i = absurd i

within_size : (n : ℕ) (p : Span) → (if nat_lt MOST_FUNCTION_NODES n then exceeds p quantity.FunctionNodes else []) ≡ [] → n ≤ MOST_FUNCTION_NODES
within_size n p h = grind (arith, rules)

few_nodes : (s : Visible) (h : Head) (x : FunDecl) (l : Tree) (f : Function) → IsFunctionOf s h x l f → (if nat_lt MOST_FUNCTION_NODES (nodes_of s h x l) then exceeds x.head.name.span quantity.FunctionNodes else []) ≡ [] →
    function_nodes f ≤ MOST_FUNCTION_NODES
few_nodes s h x l f i k =
    omega (arith, within_size (nodes_of s h x l) x.head.name.span k, conditions_nodes s h.formals x.exceptions f.exceptions i.exceptions, kinds_nodes s h x.head.result x.body f.kind i.kind, ap nodes i.level)

-- Functions

module _ (sg : Signature) (s : Visible) (seen : IsSeenBy sg s) (h : Head) (a : AreTypes sg h.formals) (any : IsAsked sg (any_type h.sort)) where
  kind_fine : (g : ℕ) (p : Span) (o : Option Ident) (b : Body) (k : Kind) → IsBodyNumbered b → kind_broken s g h p o b ≡ [] → IsWithinDepth sg.functions MOST_DERIVATION_DEPTH g → IsKindOf s h o b k → IsKind sg (types h.formals) g k
  kind_fine g p o (body.Initially e) (kind.Primitive t d) n fine deep i =
      let fits = subst (λ u. initial_broken s h.formals (head_type u) (text e) ≡ []) i.0 fine in
      initial sg s seen h.formals a t (subst (λ u. IsAsked sg (any_type u)) i.0 any) (text e) n fits d i.1
  kind_fine g p o (body.Derivation e) (kind.Derived t d) n fine deep i =
      let fits = subst (λ u. derivation_broken s g h.formals (head_type u) (text e) ≡ []) i.0 fine in
      derivation sg s seen g h.formals a t (subst (λ u. IsAsked sg (any_type u)) i.0 any) (text e) n fits deep d i.1
  kind_fine g p o (body.Effects ws) (kind.Operation es) n fine deep i =
      let fits = subst (λ u. body_broken s p h.formals (answer_of u o) (texts ws) ≡ []) i.0 fine in
      let same = i.1 ∙ ap (λ u. effects_core s (answer_of u o) h.formals (texts ws)) i.0 in
      subst (IsOperation sg (types h.formals)) (sym same) (operation sg s seen.scope seen.fresh p h.formals (texts ws) a n fits)
  kind_fine g p o (body.Effects ws) (kind.Both t es) n fine deep i =
      let fits = subst (λ u. body_broken s p h.formals (answer_of u o) (texts ws) ≡ []) i.0 fine in
      let same = i.1 ∙ ap (λ u. effects_core s (answer_of u o) h.formals (texts ws)) i.0 in
      subst (IsBoth sg (types h.formals) t) (sym same)
      (both sg s seen.scope seen.fresh p h.formals (record { name = result_name o; ty = t }) (texts ws) a (subst (λ u. IsAsked sg (any_type u)) i.0 any) n fits)
  kind_fine g p o (body.Initially e) (kind.Derived t d) n fine deep i = absurd i
  kind_fine g p o (body.Initially e) (kind.Operation es) n fine deep i = absurd i
  kind_fine g p o (body.Initially e) (kind.Both t es) n fine deep i = absurd i
  kind_fine g p o (body.Derivation e) (kind.Primitive t d) n fine deep i = absurd i
  kind_fine g p o (body.Derivation e) (kind.Operation es) n fine deep i = absurd i
  kind_fine g p o (body.Derivation e) (kind.Both t es) n fine deep i = absurd i
  kind_fine g p o (body.Effects ws) (kind.Primitive t d) n fine deep i = absurd i
  kind_fine g p o (body.Effects ws) (kind.Derived t d) n fine deep i = absurd i

  pub function_fine : length h.formals ≤ MOST_ARGUMENTS → (g : ℕ) (before : List ℕ) (x : FunDecl) (l : Tree) (f : Function) → IsFunctionNumbered x → function_broken s g before h x ≡ [] →
      IsWithinDepth sg.functions MOST_DERIVATION_DEPTH g → (if nat_lt MOST_FUNCTION_NODES (nodes_of s h x l) then exceeds x.head.name.span quantity.FunctionNodes else []) ≡ [] → IsFunctionOf s h x l f →
      IsLevel sg (types h.formals) (tree f.level) → IsFunction sg g f
  function_fine few g before x l f n fine deep size is leveled =
      let front = exceptions_broken s h.formals x.exceptions in
      let own = kind_broken s g h x.head.name.span x.head.result x.body in
      let depths = depth_broken x.head.name.span (depth_of s before h x.body) in
      let same : types h.formals ≡ types_of f.formals = sym (ap types_of is.formals ∙ formal_types h.formals) in
      let ex = exceptions sg s seen h.formals a x.exceptions n.exceptions (append_left front (behind own depths) fine) f.exceptions is.exceptions in
      let does = kind_fine g x.head.name.span x.head.result x.body f.kind n.body (behind_inner own depths (append_right front (behind own depths) fine)) deep is.kind in
      record {
        formals = subst (AreFormals sg) (sym is.formals) (are_formals sg h.formals a few);
        few_exceptions = ex.few;
        exception_names = ex.names;
        exceptions = subst (λ ts. All (λ (e : List ℕ × Expr). IsExpression sg ts (tree e.1) ty.Boolean) f.exceptions) same ex.conditions;
        kind = subst (λ ts. IsKind sg ts g f.kind) same does;
        level = subst (λ ts. IsLevel sg ts (tree f.level)) same leveled;
        few_nodes = few_nodes s h x l f is size;
      }
