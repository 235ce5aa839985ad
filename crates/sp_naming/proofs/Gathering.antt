-- Lists that are gathered item by item, for loops over items: what the items up to a place make, and the next one. For all that
-- goes over declarations or trees.
use Rattle.std.proofs.Common.{◌≡◌, sym, ◌∙◌, ap, arith, ℕ, suc, ◌+◌, ◌<◌, ◌≤◌, List, [], ◌∷◌, ◌++◌, take, length, length-take, get_or, append_assoc}
use Rattle.std.specs.List.{flat_map}
use Rattle.std.proofs.lemmas.List.{append-nil, take_more}
use Rattle.sp_naming.specs.Numbers.{after, counted, numbered}

-- the items up to a place, and the one there
pub next_item : {X : Type 0} (xs : List X) (k : ℕ) (x : X) → k < length xs → x ≡ get_or xs k x → take k xs ++ x ∷ [] ≡ take (k + 1) xs
next_item xs k x lt e = ap (λ z. take k xs ++ z ∷ []) e ∙ sym (take_more xs k x lt)

-- one more item
gather-more : {A B : Type 0} (make : A → List B) (xs : List A) (x : A) → flat_map make (xs ++ x ∷ []) ≡ flat_map make xs ++ make x
gather-more make [] x = append-nil (make x)
gather-more make (y ∷ ys) x = ap (λ z. make y ++ z) (gather-more make ys x) ∙ sym (append_assoc (make y) (flat_map make ys) (make x))

-- the step of a loop that appends what each item makes, without a number
pub gathered : {A B : Type 0} (make : A → List B) (xs : List A) (i : ℕ) (x : A) (start before after' : List B) → i < length xs → x ≡ get_or xs i x →
    before ≡ start ++ flat_map make (take i xs) → after' ≡ before ++ make x → after' ≡ start ++ flat_map make (take (i + 1) xs)
gathered make xs i x start before after' lt is b a =
    a ∙ ap (λ z. z ++ make x) b ∙ append_assoc start (flat_map make (take i xs)) (make x) ∙ ap (λ z. start ++ z) (sym (gather-more make (take i xs) x) ∙ ap (flat_map make) (next_item xs i x lt is))

-- what the items up to a place make, and what the one there makes
pub gather_next : {A B : Type 0} (make : A → List B) (xs : List A) (i : ℕ) (x : A) → i < length xs → x ≡ get_or xs i x →
    flat_map make (take i xs) ++ make x ≡ flat_map make (take (i + 1) xs)
gather_next make xs i x lt is = sym (gather-more make (take i xs) x) ∙ ap (flat_map make) (next_item xs i x lt is)

-- numbered items
pub numbered-more : {A B : Type 0} (make : ℕ → A → List B) (k : ℕ) (xs : List A) (x : A) → k ≤ 65535 →
    numbered make k (xs ++ x ∷ []) ≡ numbered make k xs ++ make (counted k (length xs)) x
numbered-more make k [] x h =
    let e : k ≡ counted k 0 = omega arith in
    append-nil (make k x) ∙ ap (λ n. make n x) e
numbered-more make k (y ∷ ys) x h =
    let next : counted (after k) (length ys) ≡ counted k (suc (length ys)) = omega arith in
    ap (λ z. make k y ++ z) (numbered-more make (after k) ys x (omega arith) ∙ ap (λ n. numbered make (after k) ys ++ make n x) next)
    ∙ sym (append_assoc (make k y) (numbered make (after k) ys) (make (counted k (suc (length ys))) x))

-- what the numbered items up to a place make, and what the one there makes
pub number_next : {A B : Type 0} (make : ℕ → A → List B) (k : ℕ) (xs : List A) (i : ℕ) (x : A) (n : ℕ) → k ≤ 65535 → i < length xs → x ≡ get_or xs i x → n ≡ counted k i →
    numbered make k (take i xs) ++ make n x ≡ numbered make k (take (i + 1) xs)
number_next make k xs i x n small lt is m =
    let len : length (take i xs) ≡ i = omega (arith, length-take i xs) in
    let number : n ≡ counted k (length (take i xs)) = m ∙ ap (counted k) (sym len) in
    ap (λ z. numbered make k (take i xs) ++ make z x) number ∙ sym (numbered-more make k (take i xs) x small) ∙ ap (numbered make k) (next_item xs i x lt is)

-- the number after that of an item is that of the next one
pub number_after : (k i n : ℕ) → k ≤ 65535 → n ≡ counted k i → after n ≡ counted k (i + 1)
number_after k i n h e = omega (arith, e)
