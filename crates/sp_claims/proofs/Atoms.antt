-- The atoms are terms of type BOOLEAN.
use Rattle.std.proofs.Common.{◌≡◌, refl, sym, ◌∙◌, subst, arith, ℕ, zero, suc, ◌+◌, ◌<◌, Bool, true, false, not, List, [], ◌∷◌, length, Some}
use Rattle.std.specs.Prelude.{if◌then◌else◌, slice_get, slice_index}
use Rattle.sp_values.specs.declared.value.Ty.{Ty}
use Rattle.sp_values.specs.declared.value.Ty.TheVariants as ty
use Rattle.sp_core.specs.Tree.{Tree}
use Rattle.sp_core.specs.Typing.{HasType, Signature}
use Rattle.sp_sequent.specs.OwnTypes.{atoms_from, is_atom, is_in, is_made_of_truths, own_type}
use Rattle.sp_sequent.proofs.Numbering.{same_type-Decides}
use Rattle.sp_sequent.proofs.OwnTypeLemmas.{typed_boolean}
use Rattle.sp_rules.proofs.FactLemmas.{both_hold}

pub record IsAtomAt (sg : Signature) (xs : List Ty) (ts : List Tree) (from n : ℕ) : Type 0 where
  pub place : ℕ
  pub tree : Tree
  pub there : slice_get ts place ≡ Some tree
  pub atom : is_atom sg xs tree ≡ true
  pub number : n ≡ from + place

pub atom_at : (sg : Signature) (xs : List Ty) (ts : List Tree) (from k : ℕ) → k < length (atoms_from sg xs from ts) → IsAtomAt sg xs ts from (slice_index (atoms_from sg xs from ts) k)
atom_at sg xs [] from k l = absurd (omega (arith, l))
atom_at sg xs (e ∷ es) from k l = by (λ j w. atom_at sg xs es (from + 1) j w) (is_atom sg xs e) refl k l
  where
    later : (n : ℕ) → IsAtomAt sg xs es (from + 1) n → IsAtomAt sg xs (e ∷ es) from n
    later n a = record { place = suc a.place; tree = a.tree; there = a.there; atom = a.atom; number = omega (arith, a.number) }

    rest : List ℕ
    rest = atoms_from sg xs (from + 1) es

    by : ((j : ℕ) → j < length rest → IsAtomAt sg xs es (from + 1) (slice_index rest j)) → (b : Bool) → is_atom sg xs e ≡ b → (k : ℕ) → k < length (if b then from ∷ rest else rest)
        → IsAtomAt sg xs (e ∷ es) from (slice_index (if b then from ∷ rest else rest) k)
    by rec true q zero w = record { place = 0; tree = e; there = refl; atom = q; number = omega arith }
    by rec true q (suc k) w = later (slice_index rest k) (rec k (omega (arith, w)))
    by rec false q k w = later (slice_index rest k) (rec k w)

-- an atom that has a type is of type BOOLEAN
pub atom_typed : (sg : Signature) (xs : List Ty) (e : Tree) (t : Ty) → is_atom sg xs e ≡ true → HasType sg xs e t → HasType sg xs e ty.Boolean
atom_typed sg xs e t a h =
    let same : ty.Boolean ≡ t = (same_type-Decides ty.Boolean t).0 (sym (typed_boolean sg xs e t h) ∙ (both_hold (is_in ty.Boolean (own_type sg xs e)) (not (is_made_of_truths e)) a).0) in
    subst (HasType sg xs e) (sym same) h
