-- The reader of a whole text: what it takes, what it tells, and where it stops.
use Rattle.std.proofs.Common.{◌≡◌, ℕ, zero, suc, ◌+◌, ◌<◌, ◌≤◌, List, [], ◌∷◌, ◌++◌, length, Ok, Err, refl, sym, ap, ◌∙◌, subst, arith, append_assoc, append-nil, length-append, inl, inr}
use Rattle.sp_text.specs.declared.fault.TextFault.{TextFault}
use Rattle.sp_cert.specs.Tree.{Tree}
use Rattle.sp_cert.specs.Spelling.{formula_line, tree_lines, formula_lines, text}
use Rattle.sp_cert.specs.Within.{IsNumber, IsTree, AreTrees}
use Rattle.sp_cert.specs.Input.{Input, Outcome, Reader, and_then, line, one}
use Rattle.sp_cert.specs.Reader.{tree_within, formula, formula_is, formulas, until_end}
use Rattle.sp_cert.proofs.LineLaws.{formula_reads, formula_stands}
use Rattle.sp_cert.proofs.Inputs.{free_formula, from, past, from_append, past_append, takes_one, Told, told_two, both_read, line_told, ok_value}
use Rattle.sp_cert.proofs.Stuck.{Stuck, in_turn, stuck_first, stuck_second, stuck_behind, stuck_one, Refusal, refusal}
use Rattle.sp_cert.proofs.Forms.{Begins, told_none, map_refused, tree_form, Trees, wider}

abbrev at_place : List ℕ → ℕ → Input
at_place r n = record { rest = r; at = n }

zero_more : (n : ℕ) → n ≡ n + 0
zero_more n = omega arith

abbrev Result_of : Type 0
Result_of = Outcome (List Tree)

abbrev ok : List Tree → Input → Result_of
ok ts i = Ok (ts, i)

abbrev err : TextFault → Result_of
err e = Err e

shorter : (i j : Input) (l : List ℕ) (ls : List (List ℕ)) → Told i (l ∷ ls) j → length j.rest < length i.rest
shorter i j l ls t = count (length l) (length (text ls)) (length j.rest) (length (l ++ (10 ∷ text ls))) (length i.rest)
    (ap (λ (x : Input). length x.rest) t.is ∙ length-append (l ++ (10 ∷ text ls)) j.rest) (length-append l (10 ∷ text ls))
  where
    count : (a b c d e : ℕ) → e ≡ d + c → d ≡ a + suc b → c < e
    count a b c d e h k = omega arith

module _ (format b : ℕ) where
  abbrev tree_after : Unit {0} → Reader Tree
  tree_after u j = tree_within format b j

  pub formula_told : (n : ℕ) (i j : Input) (t : Tree) → formula format b n i ≡ Ok (t, j) → IsNumber n × IsTree format b t × Told i (formula_line n ∷ tree_lines t) j
  unfolding formula
  formula_told n i j t e =
      let u = both_read (one (formula_is n) i) tree_after t j e in
      let l = line_told (formula_is n) i u.j u.a u.is in
      let s = formula_stands n l.line u.a l.is in
      let h = (tree_form format b).told u.j j t u.then in
      (s.1, h.0, subst (λ x. Told i (x ∷ tree_lines t) j) s.0 (told_two i u.j j (l.line ∷ []) (tree_lines t) l.told h.1))

  -- the formulas behind one, within so many
  abbrev next_within : ℕ → ℕ → Tree → Reader (List Tree)
  next_within m n t k = and_then (formulas format b m (n + 1) k) (λ ts x. Ok (t ∷ ts, x))

  some_left : (l : List ℕ) (o : Result_of) (i : Input) → 0 < length l → until_end l o i ≡ o
  some_left [] o i h = absurd (omega arith)
  some_left (c ∷ l) o i h = refl

  none_left : (l : List ℕ) (o : Result_of) (i : Input) → length l ≤ 0 → until_end l o i ≡ Ok ([], i)
  none_left [] o i h = refl
  none_left (c ∷ l) o i h = absurd (omega arith)

  formulas_none : (m n : ℕ) (i : Input) → length i.rest ≤ 0 → formulas format b m n i ≡ Ok ([], i)
  unfolding formulas
  formulas_none zero n i h = refl
  formulas_none (suc m) n i h = none_left i.rest (and_then (formula format b n i) (next_within m n)) i h

  formulas_some : (m n : ℕ) (i : Input) → 0 < length i.rest → formulas format b (suc m) n i ≡ and_then (formula format b n i) (next_within m n)
  unfolding formulas
  formulas_some m n i h = some_left i.rest (and_then (formula format b n i) (next_within m n)) i h

  alike : (o : Outcome Tree) (g h : Tree → Reader (List Tree)) → ((t : Tree) (k : Input) → o ≡ Ok (t, k) → g t k ≡ h t k) → and_then o g ≡ and_then o h
  alike (Ok p) g h e = e p.0 p.1 refl
  alike (Err x) g h e = refl

  alike_behind : (n : ℕ) (i : Input) (m k : ℕ) → length i.rest ≤ suc m → length i.rest ≤ suc k
      → ((j : Input) → length j.rest ≤ m → length j.rest ≤ k → formulas format b m (n + 1) j ≡ formulas format b k (n + 1) j) → and_then (formula format b n i) (next_within m n) ≡ and_then (formula format b n i) (next_within k n)
  alike_behind n i m k h g ih =
      alike (formula format b n i) (next_within m n) (next_within k n)
      (λ t j e. let s = shorter i j (formula_line n) (tree_lines t) (formula_told n i j t e).2 in ap (λ o. and_then o (λ ts x. ok (t ∷ ts) x)) (ih j (omega arith) (omega arith)))

  fuel_by : (n : ℕ) (i : Input) (m k x : ℕ) → length i.rest ≡ x → and_then (formula format b n i) (next_within m n) ≡ and_then (formula format b n i) (next_within k n) → formulas format b (suc m) n i ≡ formulas format b (suc k) n i
  fuel_by n i m k zero e h = formulas_none (suc m) n i (omega arith) ∙ sym (formulas_none (suc k) n i (omega arith))
  fuel_by n i m k (suc x) e h = formulas_some m n i (omega arith) ∙ h ∙ sym (formulas_some k n i (omega arith))

  -- more than enough is as enough
  fuel : (m k n : ℕ) (i : Input) → length i.rest ≤ m → length i.rest ≤ k → formulas format b m n i ≡ formulas format b k n i
  fuel zero k n i h g = formulas_none zero n i h ∙ sym (formulas_none k n i h)
  fuel (suc m) zero n i h g = formulas_none (suc m) n i g ∙ sym (formulas_none zero n i g)
  fuel (suc m) (suc k) n i h g = fuel_by n i m k (length i.rest) refl (alike_behind n i m k h g (λ j. fuel m k (n + 1) j))

  -- the formulas from the n-th on, up to the text's end
  abbrev pub whole : ℕ → Reader (List Tree)
  whole n i = formulas format b (length i.rest) n i

  abbrev pub next : ℕ → Tree → Reader (List Tree)
  next n t k = and_then (whole (n + 1) k) (λ ts x. Ok (t ∷ ts, x))

  whole_none : (n : ℕ) (i : Input) → length i.rest ≤ 0 → whole n i ≡ Ok ([], i)
  whole_none n i h = formulas_none (length i.rest) n i h

  whole_some : (n : ℕ) (i : Input) → 0 < length i.rest → whole n i ≡ and_then (formula format b n i) (next n)
  whole_some n i h = by (length i.rest) refl
    where
      by : (x : ℕ) → length i.rest ≡ x → whole n i ≡ and_then (formula format b n i) (next n)
      by zero e = absurd (omega arith)
      by (suc x) e =
          ap (λ m. formulas format b m n i) e ∙ formulas_some x n i h
          ∙ alike (formula format b n i) (next_within x n) (next n)
          (λ t j y. let s = shorter i j (formula_line n) (tree_lines t) (formula_told n i j t y).2 in ap (λ o. and_then o (λ ts z. ok (t ∷ ts) z)) (fuel x (length j.rest) (n + 1) j (omega arith) (omega arith)))

  whole_bad : (n : ℕ) (i : Input) (e : TextFault) → 0 < length i.rest → one (formula_is n) i ≡ Err e → whole n i ≡ Err e
  unfolding formula
  whole_bad n i e some h = whole_some n i some ∙ ap (λ o. and_then (and_then o tree_after) (next n)) h

  whole_line : (n : ℕ) (i j : Input) (u : Unit {0}) → one (formula_is n) i ≡ Ok (u, j) → whole n i ≡ and_then (tree_within format b j) (next n)
  unfolding formula
  whole_line n i j u h =
      let l = line_told (formula_is n) i j u h in
      let s = shorter i j l.line [] l.told in
      whole_some n i (omega arith) ∙ ap (λ o. and_then (and_then o tree_after) (next n)) h

  abbrev All : ℕ → List Tree → Type 0
  All n = AreTrees format b n

  -- what is told of the formulas from the n-th on, up to the text's end
  pub record ToldAll (n : ℕ) (i j : Input) (ts : List Tree) : Type 0 where
    pub good : All n ts
    pub told : Told i (formula_lines n ts) j
    pub ends : length j.rest ≤ 0

  told_none_left : (n : ℕ) (i j : Input) (ts : List Tree) → length i.rest ≤ 0 → whole n i ≡ Ok (ts, j) → ToldAll n i j ts
  told_none_left n i j ts h e =
      let v = ok_value [] ts i j (sym (whole_none n i h) ∙ e) in
      subst (ToldAll n i j) v.0 (record { good = tt; told = subst (Told i []) v.1 (told_none i); ends = omega (arith, h, ap (λ (x : Input). length x.rest) v.1) })

  told_more : (n : ℕ) (i j : Input) (ts : List Tree) → ((k : Input) (us : List Tree) → length k.rest < length i.rest → whole (n + 1) k ≡ Ok (us, j) → ToldAll (n + 1) k j us)
      → and_then (formula format b n i) (next n) ≡ Ok (ts, j) → ToldAll n i j ts
  told_more n i j ts ih e =
      let u = both_read (formula format b n i) (next n) ts j e in
      let f = formula_told n i u.j u.a u.is in
      let v = both_read (whole (n + 1) u.j) (λ us x. ok (u.a ∷ us) x) ts j u.then in
      let w = ok_value (u.a ∷ v.a) ts v.j j v.then in
      let s = shorter i u.j (formula_line n) (tree_lines u.a) f.2 in
      let h = ih u.j v.a s (v.is ∙ ap (ok v.a) w.1) in
      subst (ToldAll n i j) w.0 (record { good = (f.0, f.1, h.good); told = told_two i u.j j (formula_line n ∷ tree_lines u.a) (formula_lines (n + 1) v.a) f.2 h.told; ends = h.ends })

  told_by : (n : ℕ) (i j : Input) (ts : List Tree) (x : ℕ) → length i.rest ≡ x
      → ((k : Input) (us : List Tree) → length k.rest < length i.rest → whole (n + 1) k ≡ Ok (us, j) → ToldAll (n + 1) k j us) → whole n i ≡ Ok (ts, j) → ToldAll n i j ts
  told_by n i j ts zero e ih h = told_none_left n i j ts (omega arith) h
  told_by n i j ts (suc x) e ih h = told_more n i j ts ih (sym (whole_some n i (omega arith)) ∙ h)

  pub whole_told : (m n : ℕ) (i j : Input) (ts : List Tree) → length i.rest ≤ m → whole n i ≡ Ok (ts, j) → ToldAll n i j ts
  whole_told zero n i j ts h e = told_none_left n i j ts h e
  whole_told (suc m) n i j ts h e = told_by n i j ts (length i.rest) refl (λ k us s. whole_told m (n + 1) k j us (omega arith)) e

  -- taken
  pub whole_takes : (n : ℕ) (ts : List Tree) → All n ts → (at : ℕ) → whole n (from (formula_lines n ts) [] at) ≡ Ok (ts, past (formula_lines n ts) [] at)
  whole_takes n [] g at = whole_none n (at_place [] at) (omega arith) ∙ ap (λ k. ok [] (at_place [] k)) (zero_more at)
  whole_takes n (t ∷ ts) g at =
      let l = formula_line n in
      let m = formula_lines (n + 1) ts in
      let at1 = at + length (text (l ∷ [])) in
      let at2 = at1 + length (text (tree_lines t)) in
      let r = text (tree_lines t ++ m) ++ [] in
      ap (whole n) (from_append (l ∷ []) (tree_lines t ++ m) [] at)
      ∙ whole_line n (from (l ∷ []) r at) (past (l ∷ []) r at) tt (takes_one (formula_is n) l tt (free_formula n g.0) (formula_reads n g.0) r at)
      ∙ ap (λ i. and_then (tree_within format b i) (next n)) (from_append (tree_lines t) m [] at1)
      ∙ ap (λ o. and_then o (next n)) ((tree_form format b).takes t g.1 (text m ++ []) at1)
      ∙ ap (λ o. and_then o (λ us x. ok (t ∷ us) x)) (whole_takes (n + 1) ts g.2 at2)
      ∙ ap (ok (t ∷ ts)) (sym (past_append (l ∷ []) (tree_lines t ++ m) [] at ∙ past_append (tree_lines t) m [] at1))

  abbrev Starts : ℕ → ℕ → List (List ℕ) → Type 0
  Starts c n = Begins (formula_lines n) (AreTrees format c n)

  start : (c n : ℕ) → Starts c n []
  start c n = record { value = []; good = tt; more = []; is = refl }

  one_start : (c n : ℕ) (l : List ℕ) → l ≡ formula_line n → IsNumber n → (ls : List (List ℕ)) → Trees format c ls → Starts c n ((l ∷ []) ++ ls)
  one_start c n l is g ls t = record {
    value = t.value ∷ [];
    good = (g, t.good, tt);
    more = t.more;
    is = ap (λ x. x ∷ (tree_lines t.value ++ [])) (sym is) ∙ ap (λ x. l ∷ x) (append-nil (tree_lines t.value) ∙ t.is);
  }

  more_start : (c n : ℕ) (l : List ℕ) (t : Tree) → l ≡ formula_line n → IsNumber n → IsTree format c t → (ls : List (List ℕ)) → Starts c (n + 1) ls → Starts c n ((l ∷ []) ++ (tree_lines t ++ ls))
  more_start c n l t is g h ls s = record {
    value = t ∷ s.value;
    good = (g, h, s.good);
    more = s.more;
    is = ap (λ x. x ∷ (tree_lines t ++ formula_lines (n + 1) s.value)) (sym is) ∙ ap (λ x. l ∷ (tree_lines t ++ x)) s.is ∙ ap (λ x. l ∷ x) (sym (append_assoc (tree_lines t) ls s.more));
  }

  abbrev WholeStuck : ℕ → Input → TextFault → Type 0
  WholeStuck n i e = Stuck (whole n) (Starts b n) (Starts (suc b) n) i e

  some_text : (ls : List (List ℕ)) (x more : List ℕ) → 0 < length (text ls ++ (x ++ (10 ∷ more)))
  some_text ls x more = omega (arith, length-append (text ls) (x ++ (10 ∷ more)), length-append x (10 ∷ more))

  bad_stuck : (n : ℕ) (i : Input) (e : TextFault) → one (formula_is n) i ≡ Err e → WholeStuck n i e
  bad_stuck n i e h =
      let s : Stuck (one (formula_is n)) (Starts b n) (Starts (suc b) n) i e = stuck_one (formula_is n) i e (start b n) h in
      record {
        kind = s.kind;
        before = s.before;
        rest = s.rest;
        is = s.is;
        fault = s.fault;
        begun = s.begun;
        over = s.over;
        local = λ q more at w. whole_bad n (from s.before (line s.rest ++ (10 ∷ more)) at) _ (some_text s.before (line s.rest) more) (s.local q more at w);
      }

  line_stuck : (n : ℕ) (i j : Input) (u : Unit {0}) (e : TextFault) → one (formula_is n) i ≡ Ok (u, j)
      → ((k : Input) (e : TextFault) → length k.rest < length i.rest → whole (n + 1) k ≡ Err e → WholeStuck (n + 1) k e) → Refusal (tree_within format b j) (next n) e → WholeStuck n i e
  line_stuck n i j u e h ih (inl x) =
      let l = line_told (formula_is n) i j u h in
      let s = formula_stands n l.line u l.is in
      stuck_behind (whole n) (in_turn (tree_within format b) (next n)) i j e (l.line ∷ []) (λ r at. whole_line n (from (l.line ∷ []) r at) (past (l.line ∷ []) r at) u (takes_one (formula_is n) l.line u l.free l.is r at)) l.told
      (one_start b n l.line s.0 s.1) (one_start (suc b) n l.line s.0 s.1)
      (stuck_first (tree_within format b) (next n) j e (λ ls b. b) (λ ls b. b) ((tree_form format b).stuck j e x))
  line_stuck n i j u e h ih (inr x) =
      let l = line_told (formula_is n) i j u h in
      let s = formula_stands n l.line u l.is in
      let y = (tree_form format b).told j x.j x.a x.is in
      let z = shorter i x.j l.line (tree_lines x.a) (told_two i j x.j (l.line ∷ []) (tree_lines x.a) l.told y.1) in
      let inner : Stuck (in_turn (tree_within format b) (next n)) (λ ls. Starts b n ((l.line ∷ []) ++ ls)) (λ ls. Starts (suc b) n ((l.line ∷ []) ++ ls)) j e =
      stuck_second (tree_within format b) (next n) j x.j e (tree_lines x.a) x.a ((tree_form format b).takes x.a y.0) y.1 (more_start b n l.line x.a s.0 s.1 y.0) (more_start (suc b) n l.line x.a s.0 s.1 (wider format b x.a y.0))
      (stuck_first (whole (n + 1)) (λ us k. ok (x.a ∷ us) k) x.j e (λ ls b. b) (λ ls b. b) (ih x.j e z (map_refused (whole (n + 1) x.j) (λ us. x.a ∷ us) e x.refused))) in
      stuck_behind (whole n) (in_turn (tree_within format b) (next n)) i j e (l.line ∷ []) (λ r at. whole_line n (from (l.line ∷ []) r at) (past (l.line ∷ []) r at) u (takes_one (formula_is n) l.line u l.free l.is r at)) l.told
      (λ ls b. b) (λ ls b. b) inner

  stuck_by : (n : ℕ) (i : Input) (e : TextFault) (x : ℕ) (o : Outcome (Unit {0})) → length i.rest ≡ x → one (formula_is n) i ≡ o
      → ((k : Input) (e : TextFault) → length k.rest < length i.rest → whole (n + 1) k ≡ Err e → WholeStuck (n + 1) k e) → whole n i ≡ Err e → WholeStuck n i e
  stuck_by n i e zero o z h ih f = let c : ok [] i ≡ err e = sym (whole_none n i (omega arith)) ∙ f in absurd (cc)
  stuck_by n i e (suc x) (Err y) z h ih f =
      let same : y ≡ e = (let c : err y ≡ err e = sym (whole_bad n i y (omega arith) h) ∙ f in cc) in
      bad_stuck n i e (h ∙ ap (λ t. let o : Outcome (Unit {0}) = Err t in o) same)
  stuck_by n i e (suc x) (Ok p) z h ih f = line_stuck n i p.1 p.0 e h ih (refusal (tree_within format b p.1) (next n) e (sym (whole_line n i p.1 p.0 h) ∙ f))

  pub whole_stuck : (m n : ℕ) (i : Input) (e : TextFault) → length i.rest ≤ m → whole n i ≡ Err e → WholeStuck n i e
  whole_stuck zero n i e h f = stuck_by n i e (length i.rest) (one (formula_is n) i) refl refl (λ k y s. absurd (omega arith)) f
  whole_stuck (suc m) n i e h f = stuck_by n i e (length i.rest) (one (formula_is n) i) refl refl (λ k y s. whole_stuck m (n + 1) k y (omega arith)) f
