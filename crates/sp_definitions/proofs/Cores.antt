-- One more definition.
use Rattle.std.proofs.Common.{◌≡◌, refl, sym, ◌∙◌, ap, subst, rules, arith, ℕ, suc, ◌+◌, ◌≤◌, ◌<◌, true, false, List, [], ◌∷◌, ◌++◌, Option, Some, None, length, take, get_or, append_assoc}
use Rattle.std.specs.List.{All}
use Rattle.std.proofs.lemmas.List.{take_more, append-nil}
use Rattle.std.proofs.lemmas.List.Elements.{All-more, All-push}
use Rattle.sp_text.specs.declared.limits.TheConstants.{MOST_QUANTIFIERS}
use Rattle.sp_values.specs.declared.value.Value.TheVariants as value
use Rattle.sp_core.specs.declared.expr.Expr.{Expr}
use Rattle.sp_core.specs.Measures.{quantifiers}
use Rattle.sp_core.specs.Tree.{Tree, Const, tree}
use Rattle.sp_expand.specs.Parts.{IsMade}
use Rattle.sp_expand.specs.Sizes.{size, within}
use Rattle.sp_expand.proofs.Scoped.{few_quantifiers}
use Rattle.std.specs.Prelude.{if◌then◌else◌, Bool}
use Rattle.sp_plain.specs.Text.{text}
use Rattle.sp_scopes.specs.declared.lent.Definition.{Definition}
use Rattle.sp_scopes.specs.declared.scopes.Scopes.{Scopes}
use Rattle.sp_judge.specs.Translation.{AreFine, translation}
use Rattle.sp_definitions.specs.Definitions.{AreCores, HasRoom, definition_core, kept, visible_to}

pub kept_some : (t : Tree) (o : Option Expr) (e : Expr) → IsMade t o → o ≡ Some e → tree e ≡ kept t
kept_some t o e h i = let m = subst (IsMade t) i h in m.0 ∙ ap (λ b. if b then t else Const value.Unknown) (sym m.1)

pub kept_none : (t : Tree) (o : Option Expr) → IsMade t o → o ≡ None → Const value.Unknown ≡ kept t
kept_none t o h i = ap (λ b. if b then t else Const value.Unknown) (sym (subst (IsMade t) i h))

few_kept : (t : Tree) → quantifiers (kept t) ≤ MOST_QUANTIFIERS
few_kept t = by (within (size t)) refl
  where
    by : (b : Bool) → within (size t) ≡ b → quantifiers (if b then t else Const value.Unknown) ≤ MOST_QUANTIFIERS
    by true e = few_quantifiers t e
    by false e = omega arith

module _ (s : Scopes) (bottom top : ℕ) where
  cores_push : (before : List Expr) (ds : List Definition) (es : List Expr) (d : Definition) (e : Expr) → AreCores s bottom top before ds es →
      tree e ≡ definition_core s bottom top (before ++ es) d → AreCores s bottom top before (ds ++ d ∷ []) (es ++ e ∷ [])
  cores_push before [] [] d e h k = (subst (λ z. tree e ≡ definition_core s bottom top z d) (append-nil before) k, tt)
  cores_push before [] (x ∷ es) d e h k = absurd h
  cores_push before (c ∷ ds) [] d e h k = absurd h
  cores_push before (c ∷ ds) (x ∷ es) d e h k =
      (h.0, cores_push (before ++ x ∷ []) ds es d e h.1 (subst (λ z. tree e ≡ definition_core s bottom top z d) (sym (append_assoc before (x ∷ []) es)) k))

  pub cores_next : (ds : List Definition) (es : List Expr) (k : ℕ) (d : Definition) (e : Expr) → k < length ds → d ≡ get_or ds k d → AreCores s bottom top [] (take k ds) es →
      tree e ≡ definition_core s bottom top es d → AreCores s bottom top [] (take (k + 1) ds) (es ++ e ∷ [])
  cores_next ds es k d e l i h j =
      subst (λ z. AreCores s bottom top [] z (es ++ e ∷ [])) (sym (take_more ds k d l ∙ ap (λ x. take k ds ++ x ∷ []) (sym i))) (cores_push [] (take k ds) es d e h j)

  pub fine_next : (es : List Expr) (d : Definition) (e : Expr) → AreFine es → tree e ≡ definition_core s bottom top es d → AreFine (es ++ e ∷ [])
  fine_next es d e h j = All-push (λ e. quantifiers (tree e) ≤ MOST_QUANTIFIERS) es e h (subst (λ t. quantifiers t ≤ MOST_QUANTIFIERS) (sym j) (few_kept (translation (visible_to s bottom top es d) d.head.formals (text d.text))))

-- of all definitions, one of them
pub room_at : (ds : List Definition) (k : ℕ) (d : Definition) → All HasRoom ds → k < length ds → d ≡ get_or ds k d → HasRoom d
room_at ds k d h l i = subst HasRoom (sym i) (h k d l)

pub rooms_next : (ds : List Definition) (k : ℕ) (d : Definition) → k < length ds → d ≡ get_or ds k d → All HasRoom (take k ds) → HasRoom d → All HasRoom (take (k + 1) ds)
rooms_next ds k d l i h r = All-more HasRoom ds k d l h (subst HasRoom i r)
