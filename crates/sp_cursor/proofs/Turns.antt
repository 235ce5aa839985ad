-- The turns of a reader of many items, beside a loop that counts up.
use Rattle.std.proofs.Common.{◌≡◌, ℕ, suc, ◌+◌, ◌-◌, ◌<◌, ◌≤◌, Bool, true, false, List, [], ◌∷◌, ◌++◌, Ok, Err, Result, eqb, refl, sym, ◌∙◌, ap, subst, arith}
use Rattle.sp_text.specs.declared.fault.TextFault.{TextFault}
use Rattle.sp_grammar.specs.Lang.{has}
use Rattle.sp_forms.specs.Cursors.{Cursor, lookahead, Reader, Outcome, and_then, Reads}
use Rattle.sp_forms.specs.Readers.{items, read_token}
use Rattle.sp_cursor.specs.Items.{behind_of, many_of, section_of}

module _ {T : Type 0} (begin : List ℕ) (p : Reader T) {x : Outcome (List T)} (n at : ℕ) (found : List T) (i : Cursor) where
  one_turn : at < n → x ≡ items begin p (n - at) found i → x ≡ items begin p (suc (n - (at + 1))) found i
  one_turn below e = let turn : n - at ≡ suc (n - (at + 1)) = omega arith in e ∙ ap (λ m. items begin p m found i) turn

  pub item_refused : at < n → true ≡ has begin (lookahead i) → (e : TextFault) → p i ≡ Err e → x ≡ items begin p (n - at) found i → x ≡ Err e
  unfolding items
  item_refused below t e q h = one_turn below h ∙ rw (← t, q) refl

  pub item_added : at < n → true ≡ has begin (lookahead i) → (v : T) (j : Cursor) → p i ≡ Ok (v, j) → x ≡ items begin p (n - at) found i → x ≡ items begin p (n - (at + 1)) (found ++ v ∷ []) j
  unfolding items
  item_added below t v j q h = one_turn below h ∙ rw (← t, q) refl

  pub none_begins : at < n → false ≡ has begin (lookahead i) → x ≡ items begin p (n - at) found i → x ≡ Ok (found, i)
  unfolding items
  none_begins below t h = one_turn below h ∙ rw (← t) refl

  pub no_turn : n ≤ at → x ≡ items begin p (n - at) found i → x ≡ Ok (found, i)
  unfolding items
  no_turn done h = let none : n - at ≡ 0 = omega arith in h ∙ ap (λ m. items begin p m found i) none

  -- the item is refused, and so the list
  pub item_refuses : at < n → true ≡ has begin (lookahead i) → (j k : Cursor) {r : Result T TextFault} {e d : TextFault} {s : Result (List T) TextFault} → r ≡ Err e → Reads (p i) r j → s ≡ Err d → d ≡ e
      → x ≡ items begin p (n - at) found i → Reads x s k
  item_refuses below t j k {r} {e} {d} {s} q R u v h =
      let R' : Reads (p i) (Err e) j = subst (λ z. Reads (p i) z j) q R in
      subst (λ z. Reads x z k) (sym u) (λ m. item_refused below t e (R' (λ y. m (v ∙ y))) h ∙ ap Err (sym v))

  pub item_reads : at < n → true ≡ has begin (lookahead i) → (j : Cursor) {r : Result T TextFault} {v : T} {vs : List T} → r ≡ Ok v → Reads (p i) r j → vs ≡ found ++ v ∷ []
      → x ≡ items begin p (n - at) found i → x ≡ items begin p (n - (at + 1)) vs j
  item_reads below t j {r} {v} {vs} q R u h =
      let R' : p i ≡ Ok (v, j) = subst (λ z. Reads (p i) z j) q R in
      rw u (item_added below t v j R' h)

-- items with a token between two of them

-- the first, before those that are read
abbrev pub after : {T : Type 0} → T → Outcome (List T) → Outcome (List T)
after {T} h o = and_then o (λ b k. Ok (h ∷ b, k))

is_next : (c n : ℕ) (t : Bool) → t ≡ eqb c n → t ≡ has (c ∷ []) n
is_next c n true e = rw (← e) refl
is_next c n false e = rw (← e) refl

module _ {T : Type 0} (c : ℕ) (p : Reader T) where
  module _ (n at : ℕ) (h : T) (t : List T) (i : Cursor) where
    abbrev Here : Outcome (List T)
    Here = items (c ∷ []) (behind_of c p) (n - at) t i

    pub next_refuses : {x : Outcome (List T)} → at < n → true ≡ eqb c (lookahead i) → (m j k : Cursor) → read_token c i ≡ Ok (tt, m) → {r : Result T TextFault} {e d : TextFault} {s : Result (List T) TextFault}
        → r ≡ Err e → Reads (p m) r j → s ≡ Err d → d ≡ e → x ≡ after h Here → Reads x s k
    next_refuses {x} below w m j k y {r} {e} {d} {s} q R u v z =
        let R' : Reads (p m) (Err e) j = subst (λ z. Reads (p m) z j) q R in
        subst (λ z. Reads x z k) (sym u) (λ a.
        let f : behind_of c p i ≡ Err e = rw (y, R' (λ b. a (v ∙ b))) refl in
        z ∙ ap (after h) (item_refused (c ∷ []) (behind_of c p) n at t i below (is_next c _ true w) e f refl) ∙ ap Err (sym v))

    pub next_reads : {x : Outcome (List T)} → at < n → true ≡ eqb c (lookahead i) → (m j : Cursor) → read_token c i ≡ Ok (tt, m) → {r : Result T TextFault} {v : T} → r ≡ Ok v → Reads (p m) r j
        → x ≡ after h Here → x ≡ after h (items (c ∷ []) (behind_of c p) (n - (at + 1)) (t ++ v ∷ []) j)
    next_reads below w m j y {r} {v} q R z =
        let R' : p m ≡ Ok (v, j) = subst (λ z. Reads (p m) z j) q R in
        let f : behind_of c p i ≡ Ok (v, j) = rw (y, R') refl in
        z ∙ ap (after h) (item_added (c ∷ []) (behind_of c p) n at t i below (is_next c _ true w) v j f refl)

    pub none_next : {x : Outcome (List T)} → at < n → false ≡ eqb c (lookahead i) → x ≡ after h Here → x ≡ Ok (h ∷ t, i)
    none_next below w z = z ∙ ap (after h) (none_begins (c ∷ []) (behind_of c p) n at t i below (is_next c _ false w) refl)

    pub no_more : {x : Outcome (List T)} → n ≤ at → x ≡ after h Here → x ≡ Ok (h ∷ t, i)
    no_more done z = z ∙ ap (after h) (no_turn (c ∷ []) (behind_of c p) n at t i done refl)

  pub section_reads : (begin : List ℕ) (i m k : Cursor) → true ≡ eqb c (lookahead i) → read_token c i ≡ Ok (tt, m) → (r : Result (List T) TextFault) → Reads (many_of begin p m) r k → Reads (section_of c begin p i) r k
  section_reads begin i m k w y (Ok vs) R = rw (← is_next c _ true w, y, R) refl
  section_reads begin i m k w y (Err e) R = λ ne. rw (← is_next c _ true w, y, R ne) refl
