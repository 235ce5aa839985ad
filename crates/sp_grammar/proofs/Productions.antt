-- A form with a budget, its sets and its laws as one value, for each way to put forms together.
use Rattle.std.proofs.Common.{◌≡◌, ℕ, suc, Bool, true, false, ◌&&◌, IsTrue, List, [], ◌∷◌, ◌++◌, Option, cond, refl, subst}
use Rattle.sp_grammar.specs.Lang.{Lang, seq, either, made, star, optional, token, lower, room, apart, subset}
use Rattle.sp_grammar.proofs.Laws.{Fine, fine_seq, fine_either, fine_made, fine_token, fine_star}
use Rattle.sp_grammar.proofs.Chain.{Sub, sub_refl, sub_seq, sub_either, sub_made, fine_lower, lower_grows}
use Rattle.sp_grammar.proofs.Lists.{sub_star, sub_optional, fine_optional, fine_more}
use Rattle.sp_grammar.proofs.Guards.{fine_room}
use Rattle.sp_grammar.proofs.Places.{Goes}

pub record Production (at : ℕ → ℕ) (V : Type 0) : Type 1 where
  pub null : Bool
  pub first : List ℕ
  pub more : List ℕ
  pub form : ℕ → Lang V
  pub fine : (b : ℕ) → Fine at null first more (form b)
  pub grows : (b : ℕ) → Sub (form b) (form (suc b))

pub sub_room : {V : Type 0} (f g : Lang V) → Sub f g → Sub (room f) (room g)
sub_room f g s = record { whole = λ v i j w. (w.0, s.part i i w.1); part = λ i m p. p }

module _ (at : ℕ → ℕ) where
  pub goes : {V : Type 0} (r : Production at V) → Goes at r.null r.first r.more r.form
  goes r = record { fine = r.fine; grows = r.grows }

  -- the same form at each budget
  abbrev pub fixed : {V : Type 0} (null : Bool) (first more : List ℕ) (L : Lang V) → Fine at null first more L → Production at V
  fixed null first more L F = record { null = null; first = first; more = more; form = λ b. L; fine = λ b. F; grows = λ b. sub_refl L }

  abbrev pub token_rule : ℕ → Production at (Unit {0})
  token_rule c = fixed false (c ∷ []) [] (token at c) (fine_token at c)

  abbrev pub seq_rule : {A B : Type 0} (f : Production at A) (g : Production at B) → IsTrue (apart f.more g.first) → Production at (A × B)
  seq_rule f g clear = record {
    null = f.null && g.null;
    first = f.first ++ cond f.null g.first [];
    more = g.more ++ cond g.null f.more [];
    form = λ b. seq (f.form b) (g.form b);
    fine = λ b. fine_seq at f.null g.null f.first f.more g.first g.more (f.form b) (g.form b) (f.fine b) (g.fine b) clear;
    grows = λ b. sub_seq _ _ _ _ (f.grows b) (g.grows b);
  }

  abbrev pub made_rule : {A B : Type 0} → (A → ℕ → ℕ → B) → Production at A → Production at B
  made_rule h f = record {
    null = f.null;
    first = f.first;
    more = f.more;
    form = λ b. made h (f.form b);
    fine = λ b. fine_made at f.null f.first f.more h (f.form b) (f.fine b);
    grows = λ b. sub_made h _ _ (f.grows b);
  }

  -- a form that isn't empty
  pub some_fine : {V : Type 0} (f : Production at V) → f.null ≡ false → (b : ℕ) → Fine at false f.first f.more (f.form b)
  some_fine f p b = subst (λ n. Fine at n f.first f.more (f.form b)) p (f.fine b)

  abbrev pub either_rule : {V : Type 0} (f g : Production at V) → f.null ≡ false → g.null ≡ false → IsTrue (apart f.first g.first) → Production at V
  either_rule f g p q clear = record {
    null = false;
    first = f.first ++ g.first;
    more = f.more ++ g.more;
    form = λ b. either (f.form b) (g.form b);
    fine = λ b. fine_either at f.first f.more g.first g.more (f.form b) (g.form b) (some_fine f p b) (some_fine g q b) clear;
    grows = λ b. sub_either _ _ _ _ (f.grows b) (g.grows b);
  }

  abbrev pub optional_rule : {V : Type 0} (f : Production at V) → f.null ≡ false → Production at (Option V)
  optional_rule f p = record {
    null = true;
    first = f.first;
    more = f.more ++ f.first;
    form = λ b. optional (f.form b);
    fine = λ b. fine_optional at f.first f.more (f.form b) (some_fine f p b);
    grows = λ b. sub_optional _ _ (f.grows b);
  }

  abbrev pub star_rule : {V : Type 0} (f : Production at V) → f.null ≡ false → IsTrue (apart f.more f.first) → Production at (List V)
  star_rule f p clear = record {
    null = true;
    first = f.first;
    more = f.more ++ f.first;
    form = λ b. star (f.form b);
    fine = λ b. fine_star at f.first f.more (f.form b) (some_fine f p b) clear;
    grows = λ b. sub_star _ _ (f.grows b);
  }

  abbrev pub behind_rule : {V : Type 0} → ℕ → Production at V → Production at V
  behind_rule {V} c f = made_rule (λ (p : Unit {0} × V) (i : ℕ) (j : ℕ). p.1) (seq_rule (token_rule c) f refl)

  abbrev pub room_rule : {V : Type 0} → Production at V → Production at (Unit {0})
  room_rule f = record {
    null = true;
    first = [];
    more = [];
    form = λ b. room (f.form b);
    fine = λ b. fine_room at (f.form b);
    grows = λ b. sub_room _ _ (f.grows b);
  }

  -- the same with one less to spend on height
  abbrev pub lower_rule : {V : Type 0} → Production at V → Production at V
  lower_rule f = record {
    null = f.null;
    first = f.first;
    more = f.more;
    form = lower f.form;
    fine = λ b. fine_lower at f.null f.first f.more f.form f.fine b;
    grows = λ b. lower_grows f.form f.grows b;
  }
