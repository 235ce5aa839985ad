-- Chains of rows, and where they end: an interface stands above one that has no row exactly where the rows below it lead there last.
use Rattle.std.proofs.Common.{◌≡◌, ◌∙◌, ℕ, zero, suc, Bool, true, false, List, [], ◌∷◌, ap, inl, inr, refl, sym, subst}
use Rattle.std.specs.Prelude.{if◌then◌else◌}
use Rattle.std.specs.Str.{bytes_eq}
use Rattle.std.proofs.lemmas.Slice.Eq.{bytes_eq-Decides}
use Rattle.sp_tree.specs.declared.names.Ident.{Ident}
use Rattle.sp_hierarchy_rows.specs.Lowest.{AreDifferent, is_upper, lowest}
use Rattle.sp_hierarchy_rows.specs.Rows.{IsAbove, IsOver, IsUpper, Leads}

abbrev pub Row : Type 0
Row = Ident × Ident × Ident

-- ---- from the end to the chain

module _ (row : Row) (rows : List Row) where
  leads_later : (n : ℕ) (x y : List ℕ) → Leads rows n x y → Leads (row ∷ rows) n x y
  leads_later zero x y h = h
  leads_later (suc n) x z (y, over, rest) = (y, inr over, leads_later n y z rest)

  above_later : (x y : List ℕ) → IsAbove rows x y → IsAbove (row ∷ rows) x y
  above_later x y h = (h.0, leads_later h.0 x y h.1)

above_after : (rows : List Row) (n : ℕ) (x y z : List ℕ) → Leads rows n x y → IsAbove rows y z → IsAbove rows x z
above_after rows zero x y z h k = subst (λ u. IsAbove rows u z) (sym h) k
above_after rows (suc n) x y z (u, over, rest) k =
    let more = above_after rows n u y z rest k in
    (suc more.0, (u, over, more.1))

led : (rows : List Row) (x : List ℕ) → IsAbove rows x (lowest rows x)
led [] x = (0, refl)
led (row ∷ rows) x = by (bytes_eq (lowest rows x) row.0.name) refl (led rows x) (led rows row.1.name)
  where
    by : (b : Bool) → bytes_eq (lowest rows x) row.0.name ≡ b → IsAbove rows x (lowest rows x) → IsAbove rows row.1.name (lowest rows row.1.name)
        → IsAbove (row ∷ rows) x (if b then lowest rows row.1.name else lowest rows x)
    by true e first second =
        let same : lowest rows x ≡ row.0.name = (bytes_eq-Decides _ _).0 e in
        let here = above_later row rows x (lowest rows x) first in
        let on = above_later row rows row.1.name (lowest rows row.1.name) second in
        above_after (row ∷ rows) here.0 x (lowest rows x) (lowest rows row.1.name) here.1 (suc on.0, (row.1.name, inl (sym same, refl), on.1))
    by false e first second = above_later row rows x (lowest rows x) first

-- ---- from the chain to the end

stays : (rows : List Row) (y : List ℕ) → ¬ IsUpper rows y → lowest rows y ≡ y
stays [] y n = refl
stays (row ∷ rows) y n = by (bytes_eq (lowest rows y) row.0.name) refl (stays rows y (λ u. n (inr u)))
  where
    by : (b : Bool) → bytes_eq (lowest rows y) row.0.name ≡ b → lowest rows y ≡ y → (if b then lowest rows row.1.name else lowest rows y) ≡ y
    by true e rest = absurd (n (inl (sym ((bytes_eq-Decides _ _).0 e) ∙ rest)))
    by false e rest = rest

module _ (row : Row) (rows : List Row) where
  turns : (x : List ℕ) → lowest rows x ≡ row.0.name → lowest (row ∷ rows) x ≡ lowest rows row.1.name
  turns x e = ap (λ b. if b then lowest rows row.1.name else lowest rows x) ((bytes_eq-Decides _ _).1 e)

  either_way : (b : Bool) (z : List ℕ) → (if b then z else z) ≡ z
  either_way true z = refl
  either_way false z = refl

  lower_same : lowest (row ∷ rows) row.1.name ≡ lowest rows row.1.name
  lower_same = either_way (bytes_eq (lowest rows row.1.name) row.0.name) (lowest rows row.1.name)

over_same : (rows : List Row) → AreDifferent rows → (x y : List ℕ) → IsOver rows x y → lowest rows x ≡ lowest rows y
over_same [] d x y h = absurd h
over_same (row ∷ rows) d x y (inl p) =
    let free : ¬ IsUpper rows x = λ u. d.0 (subst (IsUpper rows) (sym p.0) u) in
    turns row rows x (stays rows x free ∙ sym p.0) ∙ sym (lower_same row rows) ∙ ap (lowest (row ∷ rows)) p.1
over_same (row ∷ rows) d x y (inr h) = ap (λ z. if bytes_eq z row.0.name then lowest rows row.1.name else z) (over_same rows d.1 x y h)

lead_same : (rows : List Row) → AreDifferent rows → (n : ℕ) (x y : List ℕ) → ¬ IsUpper rows y → Leads rows n x y → lowest rows x ≡ y
lead_same rows d zero x y free h = ap (lowest rows) h ∙ stays rows y free
lead_same rows d (suc n) x z free (y, over, rest) = over_same rows d x y over ∙ lead_same rows d n y z free rest

-- ---- upper interfaces

pub upper : (rows : List Row) (x : List ℕ) → is_upper rows x ≡ true → IsUpper rows x
upper [] x e = absurd cc
upper (row ∷ rows) x e = by (bytes_eq row.0.name x) refl e (upper rows x)
  where
    by : (b : Bool) → bytes_eq row.0.name x ≡ b → (if b then true else is_upper rows x) ≡ true → (is_upper rows x ≡ true → IsUpper rows x) → IsUpper (row ∷ rows) x
    by true d f rest = inl ((bytes_eq-Decides _ _).0 d)
    by false d f rest = inr (rest f)

pub not_upper : (rows : List Row) (x : List ℕ) → is_upper rows x ≡ false → ¬ IsUpper rows x
not_upper [] x e = λ u. u
not_upper (row ∷ rows) x e = by (bytes_eq row.0.name x) refl e (not_upper rows x)
  where
    by : (b : Bool) → bytes_eq row.0.name x ≡ b → (if b then true else is_upper rows x) ≡ false → (is_upper rows x ≡ false → ¬ IsUpper rows x) → ¬ IsUpper (row ∷ rows) x
    by true d f rest = absurd cc
    by false d f rest = λ u. elim u [
      | inl same ↦ let yes : bytes_eq row.0.name x ≡ true = (bytes_eq-Decides _ _).1 same in absurd cc
      | inr more ↦ rest f more
    ]

-- ---- both

pub above_lowest : (rows : List Row) (x y : List ℕ) → lowest rows x ≡ y → IsAbove rows x y
above_lowest rows x y e = subst (IsAbove rows x) e (led rows x)

pub lowest_above : (rows : List Row) → AreDifferent rows → (x y : List ℕ) → ¬ IsUpper rows y → IsAbove rows x y → lowest rows x ≡ y
lowest_above rows d x y free h = lead_same rows d h.0 x y free h.1
