-- Places of names, and lists in which nothing is broken.
use Rattle.std.proofs.Common.{◌≡◌, refl, sym, ◌∙◌, ap, subst, arith, ℕ, zero, suc, ◌+◌, ◌<◌, ◌≤◌, List, [], ◌∷◌, ◌++◌, Bool, true, false, Option, Some, None, length, map, cond}
use Rattle.std.specs.Prelude.{◌||◌, slice_get, slice_index_or, IsTrue}
use Rattle.std.specs.List.{All, flat_map, list_any, position_from}
use Rattle.std.specs.Str.{bytes_eq}
use Rattle.std.proofs.lemmas.List.Elements.{All-cons, All-nil}
use Rattle.std.proofs.lemmas.Slice.Eq.{bytes_eq-Decides}
use Rattle.sp_text.specs.declared.violation.Violation.{Violation}
use Rattle.sp_tree.specs.declared.names.Ident.{Ident}
use Rattle.sp_core.specs.Parts.{Parts}
use Rattle.sp_core.specs.WellFormed.{AreDifferent, members_of, names_of}
use Rattle.sp_naming.specs.Names.{is_among}
use Rattle.sp_instance.specs.Heads.{ident_name, names_in}
use Rattle.sp_instance.specs.Words.{place_of}
use Rattle.sp_mapping_rules.specs.Types.{at_place, item_at}
use Rattle.sp_typed.proofs.Fitting.{append_left, append_right}

pub same_item : {X : Type 0} (a b : X) → Some a ≡ Some b → a ≡ b
same_item a b e = cc

pub no_item : {X : Type 0} {A : Type 0} (k : ℕ) (x : X) → slice_get [] k ≡ Some x → A
no_item k x e = absurd (none k e)
  where
    none : (k : ℕ) → slice_get [] k ≡ Some x → ⊥
    none k e = cc

pub within : {X : Type 0} (xs : List X) (k : ℕ) (x : X) → slice_get xs k ≡ Some x → k < length xs
within [] k x e = no_item k x e
within (y ∷ xs) zero x e = omega arith
within (y ∷ xs) (suc k) x e = omega (arith, within xs k x e)

pub some_item : {X : Type 0} (xs : List X) (k : ℕ) → k < length xs → (x : X) × (slice_get xs k ≡ Some x)
some_item [] k h = let none : ⊥ = omega (arith, h) in absurd none
some_item (x ∷ xs) zero h = (x, refl)
some_item (x ∷ xs) (suc k) h = let rest : k < length xs = omega (arith, h) in some_item xs k rest

pub index_is : {X : Type 0} (xs : List X) (k : ℕ) (d x : X) → slice_get xs k ≡ Some x → slice_index_or xs k d ≡ x
index_is [] k d x e = no_item k x e
index_is (y ∷ xs) zero d x e = same_item y x e
index_is (y ∷ xs) (suc k) d x e = index_is xs k d x e

pub map_got : {X Y : Type 0} (f : X → Y) (xs : List X) (k : ℕ) (x : X) → slice_get xs k ≡ Some x → slice_get (map f xs) k ≡ Some (f x)
map_got f [] k x e = no_item k x e
map_got f (y ∷ xs) zero x e = ap (λ z. Some (f z)) (same_item y x e)
map_got f (y ∷ xs) (suc k) x e = map_got f xs k x e

-- an item of a list that is made of another one
pub got_map : {X Y : Type 0} (f : X → Y) (xs : List X) (k : ℕ) (y : Y) → slice_get (map f xs) k ≡ Some y → (x : X) × (slice_get xs k ≡ Some x) × (f x ≡ y)
got_map f [] k y e = no_item k y e
got_map f (x ∷ xs) zero y e = (x, refl, same_item (f x) y e)
got_map f (x ∷ xs) (suc k) y e = got_map f xs k y e

pub map_length : {X Y : Type 0} (f : X → Y) (xs : List X) → length (map f xs) ≡ length xs
map_length f [] = refl
map_length f (x ∷ xs) = ap suc (map_length f xs)

pub map_same : {X Y : Type 0} (f g : X → Y) (xs : List X) → ((x : X) → f x ≡ g x) → map f xs ≡ map g xs
map_same f g [] h = refl
map_same f g (x ∷ xs) h = λ i. h x i ∷ map_same f g xs h i

pub all_of : {X : Type 0} (P : X → Type 0) (xs : List X) → ((k : ℕ) (x : X) → slice_get xs k ≡ Some x → P x) → All P xs
all_of P [] h = All-nil P
all_of P (x ∷ xs) h = All-cons P x xs (h 0 x refl) (all_of P xs (λ k y e. h (suc k) y e))

pub of_all : {X : Type 0} (P : X → Type 0) (xs : List X) → All P xs → (k : ℕ) (x : X) → slice_get xs k ≡ Some x → P x
of_all P xs h k x e = subst P (index_is xs k x x e) (h k x (within xs k x e))

-- the items of a list break nothing
pub makes_nothing : {X : Type 0} (f : X → List Violation) (xs : List X) → flat_map f xs ≡ [] → (k : ℕ) (x : X) → slice_get xs k ≡ Some x → f x ≡ []
makes_nothing f [] h k x e = no_item k x e
makes_nothing f (y ∷ xs) h zero x e = subst (λ z. f z ≡ []) (same_item y x e) (append_left (f y) (flat_map f xs) h)
makes_nothing f (y ∷ xs) h (suc k) x e = makes_nothing f xs (append_right (f y) (flat_map f xs) h) k x e

-- Names

pub same_bytes : (x : List ℕ) → bytes_eq x x ≡ true
same_bytes x = (bytes_eq-Decides x x).1 refl

-- the place of a name that stands nowhere else
abbrev IsPlaced : List (List ℕ) → Type 0
IsPlaced names = (n k : ℕ) (x : List ℕ) → slice_get names k ≡ Some x → ((j : ℕ) → slice_get names j ≡ Some x → j ≡ k) → position_from (bytes_eq x) n names ≡ Some (n + k)

placed_at : (y : List ℕ) (ys : List (List ℕ)) → IsPlaced ys → (n k : ℕ) (x : List ℕ) → slice_get (y ∷ ys) k ≡ Some x → ((j : ℕ) → slice_get (y ∷ ys) j ≡ Some x → j ≡ k) →
    (b : Bool) → bytes_eq x y ≡ b → cond b (Some n) (position_from (bytes_eq x) (n + 1) ys) ≡ Some (n + k)
placed_at y ys rest n k x e one true t =
    let same : y ≡ x = sym ((bytes_eq-Decides x y).0 t) in
    let z : 0 ≡ k = one 0 (ap Some same) in
    let m : n ≡ n + k = omega (arith, z) in
    ap Some m
placed_at y ys rest n zero x e one false t =
    let same : x ≡ y = sym (same_item y x e) in
    let clash : true ≡ false = sym ((bytes_eq-Decides x y).1 same) ∙ t in
    absurd cc
placed_at y ys rest n (suc k) x e one false t =
    let r = rest (n + 1) k x e (λ j h. let z = one (suc j) h in omega (arith, z)) in
    let m : n + 1 + k ≡ n + suc k = omega arith in
    r ∙ ap Some m

placed : (names : List (List ℕ)) → IsPlaced names
placed [] n k x e one = no_item k x e
placed (y ∷ ys) n k x e one = placed_at y ys (placed ys) n k x e one (bytes_eq x y) refl

pub place_is : (names : List (List ℕ)) → AreDifferent names → (k : ℕ) (x : List ℕ) → slice_get names k ≡ Some x → place_of names x ≡ Some k
place_is names different k x e =
    let m : 0 + k ≡ k = omega arith in
    placed names 0 k x e (λ j h. different j k x h e) ∙ ap Some m

-- a name that is among names has a place
abbrev IsKnown : List (List ℕ) → Type 0
IsKnown names = (n : ℕ) (x : List ℕ) → list_any (bytes_eq x) names ≡ true → (k : ℕ) × (position_from (bytes_eq x) n names ≡ Some (n + k)) × (slice_get names k ≡ Some x)

known_at : (y : List ℕ) (ys : List (List ℕ)) → IsKnown ys → (n : ℕ) (x : List ℕ) (b : Bool) → bytes_eq x y ≡ b → (b || list_any (bytes_eq x) ys) ≡ true →
    (k : ℕ) × (cond b (Some n) (position_from (bytes_eq x) (n + 1) ys) ≡ Some (n + k)) × (slice_get (y ∷ ys) k ≡ Some x)
known_at y ys rest n x true t h =
    let m : n ≡ n + 0 = omega arith in
    (0, ap Some m, ap Some (sym ((bytes_eq-Decides x y).0 t)))
known_at y ys rest n x false t h =
    let r = rest (n + 1) x h in
    let m : n + 1 + r.0 ≡ n + suc r.0 = omega arith in
    (suc r.0, r.1 ∙ ap Some m, r.2)

known_from : (names : List (List ℕ)) → IsKnown names
known_from [] n x h = absurd cc
known_from (y ∷ ys) n x h = known_at y ys (known_from ys) n x (bytes_eq x y) refl h

pub known : (names : List (List ℕ)) (x : List ℕ) → is_among names x ≡ true → (k : ℕ) × (place_of names x ≡ Some k) × (slice_get names k ≡ Some x)
known names x h =
    let r = known_from names 0 x h in
    let m : 0 + r.0 ≡ r.0 = omega arith in
    (r.0, r.1 ∙ ap Some m, r.2)

-- an item stands under a name that is known, and it is what is found there
pub record IsFound {X : Type 0} (head : X → Ident) (xs : List X) (x : List ℕ) : Type 0 where
  pub item : X
  pub place : ℕ
  pub there : slice_get xs place ≡ Some item
  pub name : (head item).name ≡ x
  pub found : item_at head xs x ≡ Some item

pub item_found : {X : Type 0} (head : X → Ident) (xs : List X) (x : List ℕ) → is_among (names_in (map head xs)) x ≡ true → IsFound head xs x
item_found head xs x h =
    let r = known (names_in (map head xs)) x h in
    let a = got_map ident_name (map head xs) r.0 x r.2 in
    let b = got_map head xs r.0 a.0 a.1 in
    record {
      item = b.0;
      place = r.0;
      there = b.1;
      name = ap ident_name b.2 ∙ a.2;
      found = ap (at_place xs) r.1 ∙ b.1;
    }

-- parts of lists of different names

left_got : (xs ys : List (List ℕ)) (k : ℕ) (x : List ℕ) → slice_get xs k ≡ Some x → slice_get (xs ++ ys) k ≡ Some x
left_got [] ys k x e = no_item k x e
left_got (z ∷ xs) ys zero x e = e
left_got (z ∷ xs) ys (suc k) x e = left_got xs ys k x e

right_got : (xs ys : List (List ℕ)) (k : ℕ) (x : List ℕ) → slice_get ys k ≡ Some x → slice_get (xs ++ ys) (length xs + k) ≡ Some x
right_got [] ys k x e = let n : k ≡ 0 + k = omega arith in subst (λ j. slice_get ys j ≡ Some x) n e
right_got (z ∷ xs) ys k x e = let n : suc (length xs + k) ≡ suc (length xs) + k = omega arith in subst (λ j. slice_get (z ∷ xs ++ ys) j ≡ Some x) n (right_got xs ys k x e)

pub left_different : (xs ys : List (List ℕ)) → AreDifferent (xs ++ ys) → AreDifferent xs
left_different xs ys h i j x p q = h i j x (left_got xs ys i x p) (left_got xs ys j x q)

pub right_different : (xs ys : List (List ℕ)) → AreDifferent (xs ++ ys) → AreDifferent ys
right_different xs ys h i j x p q = let z = h (length xs + i) (length xs + j) x (right_got xs ys i x p) (right_got xs ys j x q) in omega (arith, z)

-- the names of types, parameters and functions of a specification differ among themselves
module _ (u : Parts) (w : AreDifferent (names_of u)) where
  abbrev type_list : List (List ℕ)
  type_list = map (λ i. i.name) u.types

  abbrev param_list : List (List ℕ)
  param_list = map (λ q. q.name) u.params

  abbrev function_list : List (List ℕ)
  function_list = map (λ f. f.name) u.functions

  abbrev members : List (List ℕ)
  members = flat_map members_of u.types

  all_but_levels : AreDifferent (((type_list ++ members) ++ param_list) ++ function_list)
  all_but_levels = left_different (((type_list ++ members) ++ param_list) ++ function_list) u.level_names w

  types_and_params : AreDifferent ((type_list ++ members) ++ param_list)
  types_and_params = left_different ((type_list ++ members) ++ param_list) function_list all_but_levels

  pub functions_different : AreDifferent (map (λ f. f.name) u.functions)
  functions_different = right_different ((type_list ++ members) ++ param_list) function_list all_but_levels

  pub params_different : AreDifferent (map (λ q. q.name) u.params)
  params_different = right_different (type_list ++ members) param_list types_and_params

  pub types_different : AreDifferent (map (λ i. i.name) u.types)
  types_different = left_different type_list members (left_different (type_list ++ members) param_list types_and_params)
