-- The items of a function have room.
use Rattle.std.proofs.Common.{◌≡◌, refl, sym, ap, subst, arith, ℕ, suc, ◌+◌, ◌-◌, ◌<◌, ◌≤◌, ◌^◌, Bool, true, false, List, [], ◌∷◌, ◌++◌, map, length, length-append}
use Rattle.std.specs.Prelude.{Option, Some, None, All, nat_lt, max, slice_get, if◌then◌else◌}
use Rattle.std.proofs.lemmas.List.{length-map}
use Rattle.std.proofs.lemmas.List.Elements.{All-append, All-cons, All-head, All-map, All-nil, All-tail, All-weaker}
use Rattle.sp_text.specs.declared.limits.TheConstants.{MOST_BOUND_VARIABLES, MOST_QUANTIFIERS}
use Rattle.sp_values.specs.declared.value.Ty.{Ty}
use Rattle.sp_values.specs.declared.value.Ty.TheVariants as ty
use Rattle.sp_core.specs.declared.function.Formal.{Formal}
use Rattle.sp_core.specs.declared.function.Function.{Function}
use Rattle.sp_core.specs.declared.function.Kind.{Kind}
use Rattle.sp_core.specs.declared.function.Kind.TheVariants as kind
use Rattle.sp_core.specs.Effects.{EffectTree, EffectTrees, effect_trees}
use Rattle.sp_core.specs.Effects as effect
use Rattle.sp_core.specs.Machine.{types_of}
use Rattle.sp_core.specs.Measures.{bound_variables, bound_variables_in, quantifiers}
use Rattle.sp_core.specs.Parts.{Parts, signature}
use Rattle.sp_core.specs.Tree.{Tree, Trees, Const, Var, Not, Two, If, Param, Look, Every, New, none, more, tree}
use Rattle.sp_core.specs.Typing.{HasType, Signature}
use Rattle.sp_core.specs.WellFormed.{AreEffects, AreNewExpressions, IsEffect, IsFunction, IsKind, IsWellFormed}
use Rattle.sp_formulas.specs.Formulas.{guards_of}
use Rattle.sp_formulas.specs.Generated.{hypothesis_tree}
use Rattle.sp_formulas.specs.Items.{Item, Deed, Change, Answer, item_under, item_within, items, items_in}
use Rattle.sp_formulas.specs.Moves.{AreBelow, IsBelow, all_renumbered, raised, raise, renumbered, settle, settle_all}
use Rattle.sp_formulas.specs.declared.spot.Hypothesis.{Hypothesis}
use Rattle.sp_formulas.proofs.TypedLemmas.{typed_below}
use Rattle.sp_generator.specs.Room.{HasRoom, IsDeedBelow}

-- Raised numbers are higher by as much as they are raised

raised_below : (b c m d k : ℕ) → b + d ≤ c → k < b → raised m d k < c
raised_below b c m d k l h = by (nat_lt k m)
  where
    by : (t : Bool) → (if t then k else k + d) < c
    by true = omega (arith, l, h)
    by false = omega (arith, l, h)

mutual
  below_raised : (b c m d : ℕ) (e : Tree) → b + d ≤ c → IsBelow b e → IsBelow c (raise m d e)
  below_raised b c m d (Const v) l h = tt
  below_raised b c m d (Var k) l h = raised_below b c m d k l h
  below_raised b c m d (Not a) l h = below_raised b c m d a l h
  below_raised b c m d (Two o a e) l h = (below_raised b c m d a l h.0, below_raised b c m d e l h.1)
  below_raised b c m d (If a e f) l h = (below_raised b c m d a l h.0, below_raised b c m d e l h.1, below_raised b c m d f l h.2)
  below_raised b c m d (Param p ds) l h = all_below_raised b c m d ds l h
  below_raised b c m d (Look g ds) l h = all_below_raised b c m d ds l h
  below_raised b c m d (Every k t a) l h = (omega (arith, l, h.0), below_raised b c m d a l h.1)
  below_raised b c m d (New g ds) l h = all_below_raised b c m d ds l h

  all_below_raised : (b c m d : ℕ) (ds : Trees) → b + d ≤ c → AreBelow b ds → AreBelow c (all_renumbered (raised m d) (λ k. k + d) ds)
  all_below_raised b c m d none l h = tt
  all_below_raised b c m d (more e ds) l h = (below_raised b c m d e l h.0, all_below_raised b c m d ds l h.1)

mutual
  below_settled : (b c n : ℕ) (e : Tree) → b + n ≤ c → IsBelow b e → IsBelow c (settle n e)
  below_settled b c n (Const v) l h = tt
  below_settled b c n (Var k) l h = omega (arith, l, h)
  below_settled b c n (Not a) l h = below_settled b c n a l h
  below_settled b c n (Two o a e) l h = (below_settled b c n a l h.0, below_settled b c n e l h.1)
  below_settled b c n (If a e f) l h = (below_settled b c n a l h.0, below_settled b c n e l h.1, below_settled b c n f l h.2)
  below_settled b c n (Param p ds) l h = all_below_settled b c n ds l h
  below_settled b c n (Look g ds) l h = all_below_settled b c n ds l h
  below_settled b c n (Every k t a) l h = (omega (arith, l, h.0), below_raised b c k (n - k) a (omega (arith, l)) h.1)
  below_settled b c n (New g ds) l h = all_below_settled b c n ds l h

  all_below_settled : (b c n : ℕ) (ds : Trees) → b + n ≤ c → AreBelow b ds → AreBelow c (settle_all n ds)
  all_below_settled b c n none l h = tt
  all_below_settled b c n (more e ds) l h = (below_settled b c n e l h.0, all_below_settled b c n ds l h.1)

-- The numbers in an item of well-formed effects, over n variables, are below b

record IsLow (b n : ℕ) (i : Item) : Type 0 where
  few : n + length i.vars ≤ b
  guards : All (IsBelow b) i.guards
  deed : IsDeedBelow b i.deed

arguments_low : (sg : Signature) (b : ℕ) (xs : List Ty) (ds : Trees) (ts : List Ty) → length xs + 3 ≤ b → AreNewExpressions sg xs ds ts → AreBelow b ds
arguments_low sg b xs none ts l h = tt
arguments_low sg b xs (more d ds) [] l h = absurd h
arguments_low sg b xs (more d ds) (t ∷ ts) l h = (typed_below sg b xs d t (omega (arith, l, h.0.few_quantifiers)) h.0.typed, arguments_low sg b xs ds ts l h.1)

low_under : (b n : ℕ) (c : Tree) (is' : List Item) → IsBelow b c → All (IsLow b n) is' → All (IsLow b n) (map (item_under c) is')
low_under b n c is' h q =
    All-map (IsLow b n) (item_under c) is' (All-weaker (IsLow b n) (λ i. IsLow b n (item_under c i)) (λ i l. record { few = l.few; guards = All-cons (IsBelow b) c i.guards h l.guards; deed = l.deed }) is' q)

low_within : (b n m : ℕ) (t : Ty) (is' : List Item) → m ≡ suc n → All (IsLow b m) is' → All (IsLow b n) (map (item_within t) is')
low_within b n m t is' e q =
    All-map (IsLow b n) (item_within t) is' (All-weaker (IsLow b m) (λ i. IsLow b n (item_within t i)) (λ i l. record { few = omega (arith, e, l.few); guards = l.guards; deed = l.deed }) is' q)

mutual
  low : (sg : Signature) (r : Option Ty) (b : ℕ) (xs : List Ty) (w : EffectTree) → length xs + bound_variables w + 3 ≤ b → IsEffect sg r xs w → All (IsLow b (length xs)) (items w)
  low sg r b xs (effect.Change g ds e) l h =
      All-cons (IsLow b (length xs)) (record { vars = []; guards = []; deed = Change g ds e }) [] (record {
        few = omega (arith, l);
        guards = All-nil (IsBelow b);
        deed = (arguments_low sg b xs ds (types_of h.0.formals) (omega (arith, l)) h.4, typed_below sg b xs e h.1 (omega (arith, l, h.5.few_quantifiers)) h.5.typed);
      }) (All-nil (IsLow b (length xs)))
  low sg r b xs (effect.Answer e) l h =
      All-cons (IsLow b (length xs)) (record { vars = []; guards = []; deed = Answer e }) [] (record {
        few = omega (arith, l);
        guards = All-nil (IsBelow b);
        deed = typed_below sg b xs e h.0 (omega (arith, l, h.2.few_quantifiers)) h.2.typed;
      }) (All-nil (IsLow b (length xs)))
  low sg r b xs (effect.If c as' bs) l h =
      let below : IsBelow b c = typed_below sg b xs c ty.Boolean (omega (arith, l, h.0.few_quantifiers)) h.0.typed in
      All-append (IsLow b (length xs)) (map (item_under c) (items_in as')) (map (item_under (Not c)) (items_in bs))
      (low_under b (length xs) c (items_in as') below (all_low sg r b xs as' (omega (arith, l)) h.1))
      (low_under b (length xs) (Not c) (items_in bs) below (all_low sg r b xs bs (omega (arith, l)) h.2))
  low sg r b xs (effect.Every k u ws) l h =
      let one : length (xs ++ u ∷ []) ≡ suc (length xs) = omega (arith, length-append xs (u ∷ [])) in
      low_within b (length xs) (length (xs ++ u ∷ [])) u (items_in ws) one (all_low sg r b (xs ++ u ∷ []) ws (omega (arith, l, one)) h.2)

  all_low : (sg : Signature) (r : Option Ty) (b : ℕ) (xs : List Ty) (ws : EffectTrees) → length xs + bound_variables_in ws + 3 ≤ b → AreEffects sg r xs ws → All (IsLow b (length xs)) (items_in ws)
  all_low sg r b xs effect.none l h = All-nil (IsLow b (length xs))
  all_low sg r b xs (effect.more w ws) l h =
      All-append (IsLow b (length xs)) (items w) (items_in ws) (low sg r b xs w (omega (arith, l)) h.0) (all_low sg r b xs ws (omega (arith, l)) h.1)

low_of : (sg : Signature) (b g : ℕ) (xs : List Ty) (k : Kind) → length xs + 5 ≤ b → IsKind sg xs g k → All (IsLow b (length xs)) (items_in (effect_trees k))
low_of sg b g xs (kind.Primitive t e) l h = All-nil (IsLow b (length xs))
low_of sg b g xs (kind.Derived t e) l h = All-nil (IsLow b (length xs))
low_of sg b g xs (kind.Operation es) l h = all_low sg None b xs (effect_trees (kind.Operation es)) (omega (arith, l, h.effects.few_bound)) h.effects.effects
low_of sg b g xs (kind.Both t es) l h = all_low sg (Some t) b xs (effect_trees (kind.Both t es)) (omega (arith, l, h.effects.few_bound)) h.effects.effects

-- in a function there is room for two raises
room_of : (f : Function) (i : Item) → IsLow (2 ^ 16) (length f.formals) i → IsLow (2 ^ 31) (length f.formals) i → HasRoom f i
room_of f i a b = record {
  few = a.few;
  guards = b.guards;
  settled = All-map (IsBelow (2 ^ 31)) (settle (length f.formals + length i.vars)) i.guards
      (All-weaker (IsBelow (2 ^ 16)) (λ e. IsBelow (2 ^ 31) (settle (length f.formals + length i.vars) e))
      (λ e h. below_settled (2 ^ 16) (2 ^ 31) (length f.formals + length i.vars) e (omega (arith, a.few)) h) i.guards a.guards);
  deed = b.deed;
}

All-both : {X : Type 0} (P Q R : X → Type 0) (xs : List X) → ((x : X) → P x → Q x → R x) → All P xs → All Q xs → All R xs
All-both P Q R [] f a b = All-nil R
All-both P Q R (x ∷ xs) f a b = All-cons R x xs (f x (All-head P x xs a) (All-head Q x xs b)) (All-both P Q R xs f (All-tail P x xs a) (All-tail Q x xs b))

pub items_room : (p : Parts) → IsWellFormed p → (g : ℕ) (f : Function) → slice_get p.functions g ≡ Some f → All (HasRoom f) (items_in (effect_trees f.kind))
items_room p fine g f at =
    let h : IsFunction (signature p) g f = fine.functions g f at in
    let same : length (types_of f.formals) ≡ length f.formals = length-map f.formals (λ (x : Formal). x.ty) in
    let low16 = subst (λ n. All (IsLow (2 ^ 16) n) (items_in (effect_trees f.kind))) same (low_of (signature p) (2 ^ 16) g (types_of f.formals) f.kind (omega (arith, same, h.formals.few)) h.kind) in
    let low31 = subst (λ n. All (IsLow (2 ^ 31) n) (items_in (effect_trees f.kind))) same (low_of (signature p) (2 ^ 31) g (types_of f.formals) f.kind (omega (arith, same, h.formals.few)) h.kind) in
    All-both (IsLow (2 ^ 16) (length f.formals)) (IsLow (2 ^ 31) (length f.formals)) (HasRoom f) (items_in (effect_trees f.kind)) (room_of f) low16 low31

-- a denial has the numbers of what it denies
one_low : (b : ℕ) (h : Hypothesis) → IsBelow b (hypothesis_tree h) → IsBelow b (tree h.e.now)
one_low b h q = by h.denied q
  where
    by : (d : Bool) → IsBelow b (if d then Not (tree h.e.now) else tree h.e.now) → IsBelow b (tree h.e.now)
    by true q = q
    by false q = q

pub hypotheses_low : (b : ℕ) (hs : List Hypothesis) → All (IsBelow b) (map hypothesis_tree hs) → All (λ h. IsBelow b (tree h.e.now)) hs
hypotheses_low b [] q = All-nil (λ (h : Hypothesis). IsBelow b (tree h.e.now))
hypotheses_low b (h ∷ hs) q =
    All-cons (λ (h : Hypothesis). IsBelow b (tree h.e.now)) h hs (one_low b h (All-head (IsBelow b) (hypothesis_tree h) (map hypothesis_tree hs) q))
    (hypotheses_low b hs (All-tail (IsBelow b) (hypothesis_tree h) (map hypothesis_tree hs) q))

pub All-of_map : {X Y : Type 0} (P : Y → Type 0) (f : X → Y) (xs : List X) → All P (map f xs) → All (λ x. P (f x)) xs
All-of_map P f [] h = All-nil (λ x. P (f x))
All-of_map P f (x ∷ xs) h = All-cons (λ x. P (f x)) x xs (All-head P (f x) (map f xs) h) (All-of_map P f xs (All-tail P (f x) (map f xs) h))
