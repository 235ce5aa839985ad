-- The entries of one change of effects, by the form of the effect that it stands in.
use Rattle.std.proofs.Common.{◌≡◌, refl, sym, ◌∙◌, ap, arith, ℕ, zero, suc, ◌+◌, ◌-◌, ◌<◌, ◌≤◌, Bool, true, false, List, [], ◌∷◌, ◌++◌, length, map, Some, append_assoc}
use Rattle.std.specs.Prelude.{if◌then◌else◌, ◌&&◌, slice_get}
use Rattle.std.specs.List.{flat_map}
use Rattle.std.proofs.lemmas.List.{append-nil}
use Rattle.std.proofs.lemmas.List.Folds.{flat_map-map}
use Rattle.std.proofs.lemmas.Grind.{flat_map-append}
use Rattle.std.proofs.lemmas.Option.{none-some, same_Some}
use mathlib.Core.Path.{fun_ext}
use Rattle.sp_values.specs.declared.value.Ty.{Ty}
use Rattle.sp_values.specs.declared.value.Value.{Value}
use Rattle.sp_values.specs.Domains.{proper_values}
use Rattle.sp_core.specs.declared.state.Entry.{Entry}
use Rattle.sp_core.specs.Effects.{GuardedChange, EffectTree, EffectTrees, Change, Answer, If, Every, none, more, change_under, change_within, changes}
use Rattle.sp_core.specs.Machine.{Machine, value_at}
use Rattle.sp_core.specs.Tree.{Tree, Trees}
use Rattle.sp_core.specs.Typing.{HasType, Signature}
use Rattle.sp_core.specs.Values.{Store, is_true, look}
use Rattle.sp_core.proofs.Fronts.{value_front}
use Rattle.sp_listing.specs.True.{bindings, entries_at, entry_at, entry_if, is_held}

-- how much is to be done for effects
abbrev mutual
  pub load : EffectTree → ℕ
  load (Change g ds e) = 1
  load (Answer e) = 1
  load (If c as' bs) = suc (loads as' + loads bs)
  load (Every k t ws) = suc (suc (loads ws))

  pub loads : EffectTrees → ℕ
  loads none = 1
  loads (more w ws) = suc (load w + loads ws)

-- elements of lists

pub get_left : (as' bs : List GuardedChange) (n : ℕ) → n < length as' → slice_get (as' ++ bs) n ≡ slice_get as' n
get_left [] bs n l = absurd (omega (arith, l))
get_left (a ∷ as') bs zero l = refl
get_left (a ∷ as') bs (suc n) l = get_left as' bs n (omega (arith, l))

pub get_right : (as' bs : List GuardedChange) (n : ℕ) → length as' ≤ n → slice_get (as' ++ bs) n ≡ slice_get bs (n - length as')
get_right [] bs n l = ap (λ k. slice_get bs k) (omega arith)
get_right (a ∷ as') bs zero l = absurd (omega (arith, l))
get_right (a ∷ as') bs (suc n) l = get_right as' bs n (omega (arith, l)) ∙ ap (λ k. slice_get bs k) (omega arith)

pub get_mapped : (f : GuardedChange → GuardedChange) (as' : List GuardedChange) (n : ℕ) (b : GuardedChange) → slice_get (map f as') n ≡ Some b → (a : GuardedChange) × (slice_get as' n ≡ Some a) × (b ≡ f a)
get_mapped f [] n b h = absurd (none-some b h)
get_mapped f (a ∷ as') zero b h = (a, refl, sym (same_Some (f a) b h))
get_mapped f (a ∷ as') (suc n) b h = get_mapped f as' n b h

-- the entries of a change

flat_map-nothing : {A B : Type 0} (xs : List A) → flat_map {X = A} {A = B} (λ x. []) xs ≡ []
flat_map-nothing [] = refl
flat_map-nothing (x ∷ xs) = flat_map-nothing xs

guarded : {A : Type 0} (b : Bool) (t : A → Bool) (e : A → Entry) (xs : List A)
    → flat_map (λ x. if b && t x then e x ∷ [] else []) xs ≡ (if b then flat_map (λ x. if t x then e x ∷ [] else []) xs else [])
guarded true t e xs = refl
guarded false t e xs = flat_map-nothing xs

flat_map-twice : {A B C : Type 0} (f : B → List C) (g : A → List B) (xs : List A) → flat_map f (flat_map g xs) ≡ flat_map (λ x. flat_map f (g x)) xs
flat_map-twice f g [] = refl
flat_map-twice f g (x ∷ xs) = flat_map-append f (g x) (flat_map g xs) ∙ ap (λ ys. flat_map f (g x) ++ ys) (flat_map-twice f g xs)

module _ (m : Machine) (s u : Store) where
  -- a change of no variables and no guards makes its entry
  pub entries_plain : (x : List Value) (g : ℕ) (ds : Trees) (e : Tree) (n : ℕ) (a : GuardedChange) → slice_get (changes (Change g ds e)) n ≡ Some a → entries_at m s u x a ≡ entry_at m s u x (record { vars = []; guards = []; fun = g; args = ds; value = e }) ∷ []
  entries_plain x g ds e zero a h =
      ap (λ b. entries_at m s u x b) (sym (same_Some (record { vars = []; guards = []; fun = g; args = ds; value = e }) a h))
      ∙ ap (λ y. entry_at m s u y (record { vars = []; guards = []; fun = g; args = ds; value = e }) ∷ []) (append-nil x)
  entries_plain x g ds e (suc n) a h = absurd (none-some a h)

  -- below a condition
  pub entries_under : (sg : Signature) (xs : List Ty) (t : Ty) (c : Tree) → HasType sg xs c t → (x : List Value) → length x ≡ length xs → (a : GuardedChange)
      → entries_at m s u x (change_under c a) ≡ (if is_true (value_at m s x c) then entries_at m s u x a else [])
  entries_under sg xs t c typed x long a =
      ap (λ f. flat_map f (bindings m.world a.vars))
      (fun_ext (λ cs. ap (λ v. if is_true v && is_held m s (x ++ cs) a then entry_at m s u (x ++ cs) a ∷ [] else []) (value_front m.world (look m.world m.functions s) (look m.world m.functions s) sg xs x cs long c t typed)))
      ∙ guarded (is_true (value_at m s x c)) (λ cs. is_held m s (x ++ cs) a) (λ cs. entry_at m s u (x ++ cs) a) (bindings m.world a.vars)

  -- below a FORALL effect
  pub entries_within : (x : List Value) (t : Ty) (a : GuardedChange) → entries_at m s u x (change_within t a) ≡ flat_map (λ c. entries_at m s u (x ++ c ∷ []) a) (proper_values m.world.sizes t)
  entries_within x t a =
      flat_map-twice (λ cs. entry_if m s u (x ++ cs) a) (λ c. map (λ cs. c ∷ cs) (bindings m.world a.vars)) (proper_values m.world.sizes t)
      ∙ ap (λ f. flat_map f (proper_values m.world.sizes t)) (fun_ext (λ c.
      flat_map-map (λ cs. entry_if m s u (x ++ cs) a) (λ cs. c ∷ cs) (bindings m.world a.vars)
      ∙ ap (λ f. flat_map f (bindings m.world a.vars)) (fun_ext (λ cs. ap (λ y. entry_if m s u y a) (sym (append_assoc x (c ∷ []) cs))))))
