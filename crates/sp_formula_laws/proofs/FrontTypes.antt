-- Expressions that are typed over the first of the variables, as they stand in a specification: settled, they are typed over
-- all variables.
use Rattle.std.proofs.Common.{◌≡◌, refl, sym, ◌∙◌, ap, subst, arith, ℕ, ◌≤◌, List, [], ◌∷◌, ◌++◌, length, take, append_assoc}
use Rattle.std.specs.Prelude.{IsTrue, Option, Some, slice_get}
use Rattle.std.specs.List.{All}
use Rattle.std.proofs.Math.Seq.{take-append_seam}
use Rattle.std.proofs.lemmas.List.{append-nil}
use Rattle.std.proofs.lemmas.List.Elements.{All-cons, All-nil, All-weaker}
use Rattle.sp_text.specs.declared.limits.TheConstants.{MOST_QUANTIFIERS}
use Rattle.sp_values.specs.declared.value.Op.TheVariants as op
use Rattle.sp_values.specs.declared.value.Ty.{Ty}
use Rattle.sp_values.specs.declared.value.Ty.TheVariants as ty
use Rattle.sp_core.specs.declared.function.Function.{Function}
use Rattle.sp_core.specs.Measures.{quantifiers, quantifiers_in}
use Rattle.sp_core.specs.Parts.{Parts, signature}
use Rattle.sp_core.specs.Tree.{Tree, Trees, Not, Two, none, more, tree}
use Rattle.sp_core.specs.Typing.{HasType, HaveTypes, Signature, is_finite, is_type}
use Rattle.sp_core.specs.WellFormed.{AreNewExpressions, IsLevel}
use Rattle.sp_formulas.specs.Formulas.{equal_all, level_at, level_term}
use Rattle.sp_formulas.specs.Moves.{put, settle}
use Rattle.sp_formulas.proofs.TypedLemmas.{put_typed, settle_typed}
use Rattle.sp_formula_laws.proofs.Counts.{put_count}

-- an expression of type t over the first variables vs, with few quantifiers in one another
pub record IsFrontOf (sg : Signature) (vars : List Ty) (t : Ty) (e : Tree) (vs ws : List Ty) : Type 0 where
  pub parts : vars ≡ vs ++ ws
  pub typed : HasType sg vs e t
  pub few : quantifiers e ≤ MOST_QUANTIFIERS

abbrev pub IsFront : Signature → List Ty → Ty → Tree → Type 0
IsFront sg vars t e = (vs : List Ty) × (ws : List Ty) × IsFrontOf sg vars t e vs ws

-- settled, it is typed over all variables
pub record IsSettled (sg : Signature) (vars : List Ty) (t : Ty) (e : Tree) : Type 0 where
  pub typed : HasType sg vars (settle (length vars) e) t
  pub few : quantifiers e ≤ MOST_QUANTIFIERS

abbrev pub AreTypes : Signature → List Ty → Type 0
AreTypes sg ts = All (λ t. IsTrue (is_type sg t)) ts

-- what a quantifier ranges over is a type
pub finite_type : (sg : Signature) (t : Ty) → IsTrue (is_finite sg t) → IsTrue (is_type sg t)
finite_type sg ty.Boolean h = refl
finite_type sg ty.Integer h = refl
finite_type sg ty.Level h = refl
finite_type sg (ty.Member k) h = h

module _ (sg : Signature) where
  pub front_settled : (vars : List Ty) (t : Ty) (e : Tree) → IsFront sg vars t e → IsSettled sg vars t e
  front_settled vars t e h = record {
    typed = settle_typed sg vars (length h.0) e t (subst (λ ys. HasType sg ys e t) (sym (ap (take (length h.0)) h.2.parts ∙ take-append_seam h.0 h.1)) h.2.typed);
    few = h.2.few;
  }

  pub all_settled : (vars : List Ty) (t : Ty) (es : List Tree) → All (IsFront sg vars t) es → All (IsSettled sg vars t) es
  all_settled vars t es h = All-weaker (IsFront sg vars t) (IsSettled sg vars t) (λ e f. front_settled vars t e f) es h

  -- over further variables
  pub front_more : (vars us : List Ty) (t : Ty) (e : Tree) → IsFront sg vars t e → IsFront sg (vars ++ us) t e
  front_more vars us t e h = (h.0, h.1 ++ us, record { parts = ap (λ ys. ys ++ us) h.2.parts ∙ append_assoc h.0 h.1 us; typed = h.2.typed; few = h.2.few })

  pub fronts_more : (vars us : List Ty) (t : Ty) (es : List Tree) → All (IsFront sg vars t) es → All (IsFront sg (vars ++ us) t) es
  fronts_more vars us t es h = All-weaker (IsFront sg vars t) (IsFront sg (vars ++ us) t) (λ e f. front_more vars us t e f) es h

  -- typed over the first variables, or over all
  pub front_of : (vs ws : List Ty) (t : Ty) (e : Tree) → HasType sg vs e t → quantifiers e ≤ MOST_QUANTIFIERS → IsFront sg (vs ++ ws) t e
  front_of vs ws t e h l = (vs, ws, record { parts = refl; typed = h; few = l })

  pub whole_front : (vars : List Ty) (t : Ty) (e : Tree) → HasType sg vars e t → quantifiers e ≤ MOST_QUANTIFIERS → IsFront sg vars t e
  whole_front vars t e h l = (vars, [], record { parts = sym (append-nil vars); typed = h; few = l })

  pub front_not : (vars : List Ty) (c : Tree) → IsFront sg vars ty.Boolean c → IsFront sg vars ty.Boolean (Not c)
  front_not vars c h = (h.0, h.1, record { parts = h.2.parts; typed = (refl, h.2.typed); few = h.2.few })

  -- expressions of a change
  pub new_typed : (xs : List Ty) (ds : Trees) (ts : List Ty) → AreNewExpressions sg xs ds ts → HaveTypes sg xs ds ts
  new_typed xs none [] h = tt
  new_typed xs none (t ∷ ts) h = absurd h
  new_typed xs (more d ds) [] h = absurd h
  new_typed xs (more d ds) (t ∷ ts) h = (h.0.typed, new_typed xs ds ts h.1)

  pub new_few : (xs : List Ty) (ds : Trees) (ts : List Ty) → AreNewExpressions sg xs ds ts → quantifiers_in ds ≤ MOST_QUANTIFIERS
  new_few xs none ts h = omega arith
  new_few xs (more d ds) [] h = absurd h
  new_few xs (more d ds) (t ∷ ts) h = omega (arith, h.0.few_quantifiers, new_few xs ds ts h.1)

  -- one side and the other, each over its own first variables
  pub both_levels : (vars : List Ty) (a b : Tree) → IsFront sg vars ty.Level a → IsFront sg vars ty.Level b → IsSettled sg vars ty.Boolean (Two op.LevelLe a b)
  both_levels vars a b h k =
      let s = front_settled vars ty.Level a h in
      let r = front_settled vars ty.Level b k in
      record { typed = (ty.Level, (refl, refl), s.typed, r.typed); few = omega (arith, s.few, r.few) }

  pub both_same : (vars : List Ty) (t : Ty) (a b : Tree) → IsFront sg vars t a → IsFront sg vars t b → IsSettled sg vars ty.Boolean (Two op.Same a b)
  both_same vars t a b h k =
      let s = front_settled vars t a h in
      let r = front_settled vars t b k in
      record { typed = (t, refl, s.typed, r.typed); few = omega (arith, s.few, r.few) }

  module _ (xs ws : List Ty) where
    pub equal_settled : (ds es : Trees) (ts : List Ty) → HaveTypes sg xs ds ts → quantifiers_in ds ≤ MOST_QUANTIFIERS → HaveTypes sg (xs ++ ws) es ts → quantifiers_in es ≤ MOST_QUANTIFIERS
        → All (IsSettled sg (xs ++ ws) ty.Boolean) (equal_all ds es)
    equal_settled none es ts h l k m = All-nil (IsSettled sg (xs ++ ws) ty.Boolean)
    equal_settled (more d ds) none ts h l k m = All-nil (IsSettled sg (xs ++ ws) ty.Boolean)
    equal_settled (more d ds) (more e es) [] h l k m = absurd h
    equal_settled (more d ds) (more e es) (t ∷ ts) h l k m =
        All-cons (IsSettled sg (xs ++ ws) ty.Boolean) (Two op.Same d e) (equal_all ds es)
        (both_same (xs ++ ws) t d e (front_of xs ws t d h.0 (omega (arith, l))) (whole_front (xs ++ ws) t e k.0 (omega (arith, m))))
        (equal_settled ds es ts h.1 (omega (arith, l)) k.1 (omega (arith, m)))

-- the level of a function at arguments over the first variables
pub level_front : (p : Parts) (xs ws ts : List Ty) (g : ℕ) (f : Function) (ds : Trees) → slice_get p.functions g ≡ Some f → IsLevel (signature p) ts (tree f.level) → HaveTypes (signature p) xs ds ts
    → quantifiers_in ds ≤ MOST_QUANTIFIERS → IsFront (signature p) (xs ++ ws) ty.Level (level_at p g ds)
level_front p xs ws ts g f ds there level args few =
    subst (λ (o : Option Function). IsFront (signature p) (xs ++ ws) ty.Level (put ds (level_term o))) (sym there)
    (front_of (signature p) xs ws ty.Level (put ds (tree f.level)) (put_typed (signature p) xs ts ds args (tree f.level) ty.Level level.no_quantifier level.expression.typed) (put_count MOST_QUANTIFIERS ds few (tree f.level) level.no_quantifier))
