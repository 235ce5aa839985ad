-- Items behind those that are there already: what a reader of many items finds, with these before it.
use Rattle.std.proofs.Common.{◌≡◌, ℕ, ◌-◌, ◌<◌, ◌≤◌, true, false, List, ◌++◌, Ok, Err, Result, sym, ◌∙◌, ap, subst}
use Rattle.sp_text.specs.declared.fault.TextFault.{TextFault}
use Rattle.sp_grammar.specs.Lang.{has}
use Rattle.sp_forms.specs.Cursors.{Cursor, lookahead, Reader, Outcome, and_then, Reads}
use Rattle.sp_forms.specs.Readers.{items}
use Rattle.sp_cursor.proofs.Turns.{item_refused, none_begins, no_turn}

abbrev pub onto : {T : Type 0} → List T → Outcome (List T) → Outcome (List T)
onto {T} start o = and_then o (λ found next. Ok (start ++ found, next))

module _ {T : Type 0} (begin : List ℕ) (p : Reader T) {x : Outcome (List T)} (start : List T) (n at : ℕ) (found : List T) (i : Cursor) where
  pub onto_refuses : at < n → true ≡ has begin (lookahead i) → (j k : Cursor) {r : Result T TextFault} {e d : TextFault} {s : Result (List T) TextFault} → r ≡ Err e → Reads (p i) r j → s ≡ Err d → d ≡ e
      → x ≡ items begin p (n - at) found i → Reads (onto start x) s k
  onto_refuses below t j k {r} {e} {d} {s} q R u v h =
      let R' : Reads (p i) (Err e) j = subst (λ z. Reads (p i) z j) q R in
      subst (λ z. Reads (onto start x) z k) (sym u) (λ m. ap (onto start) (item_refused begin p n at found i below t e (R' (λ y. m (v ∙ y))) h) ∙ ap Err (sym v))

  pub onto_none_begins : at < n → false ≡ has begin (lookahead i) → x ≡ items begin p (n - at) found i → onto start x ≡ Ok (start ++ found, i)
  onto_none_begins below t h = ap (onto start) (none_begins begin p n at found i below t h)

  pub onto_no_turn : n ≤ at → x ≡ items begin p (n - at) found i → onto start x ≡ Ok (start ++ found, i)
  onto_no_turn done h = ap (onto start) (no_turn begin p n at found i done h)
