-- The nodes of a function are those of its texts.
use Rattle.std.proofs.Common.{◌≡◌, refl, sym, ◌∙◌, ap, ℕ, suc, ◌+◌, ◌<◌, List, [], ◌∷◌, length, take, get_or}
use Rattle.std.specs.Prelude.{Option}
use Rattle.std.specs.List.{sum_by}
use Rattle.std.proofs.lemmas.List.Sums.{sum_by-cons, sum_by_more}
use Rattle.sp_tree.specs.declared.expr.ExprTree.{ExprTree}
use Rattle.sp_tree.specs.declared.module.Body.{Body}
use Rattle.sp_tree.specs.declared.module.Body.TheVariants as body
use Rattle.sp_tree.specs.declared.module.FunDecl.{FunDecl}
use Rattle.sp_tree.specs.declared.names.Ident.{Ident}
use Rattle.sp_core.specs.declared.expr.Expr.{Expr}
use Rattle.sp_core.specs.declared.function.Function.{Function}
use Rattle.sp_core.specs.declared.function.Kind.{Kind}
use Rattle.sp_core.specs.declared.function.Kind.TheVariants as kind
use Rattle.sp_core.specs.Effects.{EffectTree, EffectTrees, Change, Answer, If, Every, none, more}
use Rattle.sp_core.specs.Measures.{effect_nodes_in, function_nodes, kind_nodes, nodes}
use Rattle.sp_core.specs.Tree.{Tree, tree}
use Rattle.sp_scopes.specs.declared.heads.Head.{Head}
use Rattle.sp_scopes.specs.declared.heads.Local.{Local}
use Rattle.sp_judge.specs.Visible.{Visible}
use Rattle.sp_functions.specs.Exceptions.{AreExceptionsOf}
use Rattle.sp_specification.specs.Functions.{IsFunctionOf, IsKindOf, body_nodes, condition_nodes, nodes_of}
use Rattle.sp_making.specs.Counted.{condition_count}

-- how much is to be counted in effects
abbrev mutual
  pub load : EffectTree → ℕ
  load (Change g ds e) = 1
  load (Answer e) = 1
  load (If c as' bs) = suc (loads as' + loads bs)
  load (Every k t ws) = suc (suc (loads ws))

  pub loads : EffectTrees → ℕ
  loads none = 1
  loads (more w ws) = suc (load w + loads ws)

pub sum_next : (es : List (List ℕ × Expr)) (k : ℕ) (e : List ℕ × Expr) → k < length es → e ≡ get_or es k e → sum_by condition_count (take k es) + condition_count e ≡ sum_by condition_count (take (k + 1) es)
sum_next es k e l i = ap (λ n. sum_by condition_count (take k es) + n) (ap condition_count i) ∙ sym (sum_by_more condition_count es k e l)

same_conditions : (s : Visible) (l : List Local) (xs : List (Ident × ExprTree)) (es : List (List ℕ × Expr)) → AreExceptionsOf s l xs es → sum_by condition_count es ≡ sum_by (condition_nodes s l) xs
same_conditions s l [] [] h = refl
same_conditions s l [] (e ∷ es) h = absurd h
same_conditions s l (x ∷ xs) [] h = absurd h
same_conditions s l (x ∷ xs) (e ∷ es) h =
    sum_by-cons condition_count e es ∙ ap (λ n. n + sum_by condition_count es) (ap nodes h.0.condition)
    ∙ ap (λ n. condition_nodes s l x + n) (same_conditions s l xs es h.1) ∙ sym (sum_by-cons (condition_nodes s l) x xs)

same_kind : (s : Visible) (h : Head) (o : Option Ident) (b : Body) (k : Kind) → IsKindOf s h o b k → kind_nodes k ≡ body_nodes s h o b
same_kind s h o (body.Initially e) (kind.Primitive t x) i = ap nodes i.1
same_kind s h o (body.Initially e) (kind.Derived t x) i = absurd i
same_kind s h o (body.Initially e) (kind.Operation es) i = absurd i
same_kind s h o (body.Initially e) (kind.Both t es) i = absurd i
same_kind s h o (body.Derivation e) (kind.Primitive t x) i = absurd i
same_kind s h o (body.Derivation e) (kind.Derived t x) i = ap nodes i.1
same_kind s h o (body.Derivation e) (kind.Operation es) i = absurd i
same_kind s h o (body.Derivation e) (kind.Both t es) i = absurd i
same_kind s h o (body.Effects ws) (kind.Primitive t x) i = absurd i
same_kind s h o (body.Effects ws) (kind.Derived t x) i = absurd i
same_kind s h o (body.Effects ws) (kind.Operation es) i = ap effect_nodes_in i.1
same_kind s h o (body.Effects ws) (kind.Both t es) i = ap effect_nodes_in i.1

pub same_nodes : (s : Visible) (h : Head) (x : FunDecl) (level : Tree) (f : Function) → IsFunctionOf s h x level f → function_nodes f ≡ nodes_of s h x level
same_nodes s h x level f i =
    ap (λ n. n + (kind_nodes f.kind + nodes (tree f.level))) (same_conditions s h.formals x.exceptions f.exceptions i.exceptions)
    ∙ ap (λ n. sum_by (condition_nodes s h.formals) x.exceptions + (n + nodes (tree f.level))) (same_kind s h x.head.result x.body f.kind i.kind)
    ∙ ap (λ z. sum_by (condition_nodes s h.formals) x.exceptions + (body_nodes s h x.head.result x.body + nodes z)) i.level
