-- What the reader of a whole text answers, and that each text has one tree or one fault. For the readers of all texts.
use Rattle.std.proofs.Common.{◌≡◌, ◌≢◌, ℕ, suc, ◌≤◌, ◌⊎◌, inl, inr, Bool, true, false, not, ◌&&◌, eqb, IsTrue, List, [], length, Option, None, Some, Result, Ok, Err, if◌then◌else◌, refl, sym, ◌∙◌, ap, subst, lit≤, arith}
use Rattle.std.proofs.lemmas.Bool.{cases_lt, eqb-true, eq-eqb}
use Rattle.sp_text.specs.declared.fault.Limit.{Limit}
use Rattle.sp_text.specs.declared.token.Token.{Token}
use Rattle.sp_text.specs.declared.fault.TextFault.{TextFault}
use Rattle.sp_text.specs.declared.fault.TextFault.TheVariants as fault
use Rattle.sp_grammar.specs.Lang.{Lang, Prefix, has}
use Rattle.sp_grammar.specs.Texts.{most, AnswersText, AnswersTextOnly, AnswersCounted, AnswersCountedOnly, IsRead, IsFirstOff, RefusesText, RefusesCounted}
use Rattle.sp_grammar.specs.Within.{Limits, ReadsWithin}
use Rattle.sp_grammar.proofs.Forms.{Form}
use Rattle.sp_grammar.proofs.Laws.{and_left, and_right}
use Rattle.sp_grammar.proofs.OneAnswer.{answers_only, counted_only}
use Rattle.sp_grammar.proofs.Within.{mix, shorter, keeps_itself}
use Rattle.sp_expression.specs.Grammar.{at}
use Rattle.sp_expression.proofs.Decisions.{end_code}
use Rattle.sp_forms.specs.Cursors.{Cursor, unexpected, Outcome, Reader, and_then, Reads}
use Rattle.sp_forms.specs.Answers.{FailsWithin, Meets}
use Rattle.sp_forms.specs.Grammars.{Gram, Line, Rec, means, means_in, follow, is_ll1, rec_is_ll1, is_text, is_text_in, no_form}
use Rattle.sp_forms.specs.Readers.{read_end, read_line, read_in, read_levels, read_text, read_text_in, whole_of, counted, counted_outcome, none}
use Rattle.sp_forms.proofs.Parts.{cursor}
use Rattle.sp_forms.proofs.Sound.{no_again, none_found, form_of, sound}
use Rattle.sp_forms.proofs.Levels.{again, levels_meet}

module _ (ts : List Token) (end : ℕ) {V : Type 0} (f : Form (at ts) V) (closed : IsTrue (not (has f.more 0))) where
  abbrev F : Limits → Lang V
  F = f.form

  first_off : (n : ℕ) → Prefix (F most) 0 n → ((m : ℕ) → Prefix (F most) 0 m → m ≤ n) → IsFirstOff F n
  first_off n p u = record {
    before = λ m lt. shorter (at ts) f most 0 n (suc m) p (omega arith) (omega arith);
    off = λ q. let x = u (suc n) q in omega arith;
  }

  -- where all the tokens are read, no token goes on
  ends : (l : Limits) (v : V) (m : ℕ) → IsRead F ts v → Prefix (F l) 0 m → m ≤ length ts
  ends l v m w p = elim (cases_lt (length ts) m) [
    | inl lt ↦ absurd (
        let h = mix (at ts) f most l v 0 (length ts) m w p lt in
        let e = ap (has f.more) (end_code ts (length ts) (omega arith)) in
        let t : IsTrue (has f.more 0) = sym e ∙ h in
        let z : IsTrue (not true) = rw t at closed in
        cc)
    | inr ge ↦ ge
  ]

  refused : (e : TextFault) → FailsWithin most F ts end 0 e → RefusesText F ts end e
  refused (fault.Malformed m) (n, S, p) = (
    n,
    first_off n S.so_far (S.front most),
    (λ l q. let x = S.front l (suc n) q in omega arith),
    (λ v w.
        let x = S.front most (length ts) (inr (v, w)) in
        let y = ends most v n w S.so_far in
        let z : length ts ≡ n = omega arith in
        S.not_whole most v (subst (λ k. (F most).whole v 0 k) z w)),
    p,
  )
  refused (fault.Limit l) (q, n, X, p) = (
    q,
    n,
    first_off n X.so_far (λ m y. X.front most m (keeps_itself q most) y),
    record { over = X.over; same = λ k y z. let x = X.front k (suc n) y z in omega arith },
    (λ v w.
        let x = X.front most (length ts) (keeps_itself q most) (inr (v, w)) in
        let y = ends (X.over.0) v (suc n) w X.over.2 in
        omega arith),
    p,
  )
  refused fault.Memory p = tt

  lasting : (e : TextFault) → FailsWithin most F ts end 0 e → e ≢ fault.Memory
  lasting (fault.Malformed m) x = λ z. cc
  lasting (fault.Limit l) x = λ z. cc
  lasting fault.Memory x = absurd x

  one_tree_of : (u v : V) → IsRead F ts u → IsRead F ts v → u ≡ v
  one_tree_of u v a b = (f.fine most).same u v 0 (length ts) a b

  abbrev Answered : Outcome V → Type 0
  Answered (Ok p) = IsRead F ts p.0
  Answered (Err e) = (e ≢ fault.Memory) × RefusesText F ts end e

  -- a token is left over
  left_over : (v : V) (j : ℕ) → ReadsWithin most F v 0 j → (j ≡ length ts → ⊥) → RefusesText F ts end (unexpected (cursor ts end j))
  unfolding unexpected
  left_over v j R ne = (
    j,
    first_off j (inr (v, R.whole)) (R.front most),
    (λ l q. let x = R.front l (suc j) q in omega arith),
    (λ u w.
        let x = R.front most (length ts) (inr (u, w)) in
        let y = ends most u j w (inr (v, R.whole)) in
        ne (omega arith)),
    refl,
  )

  not_memory : (i : Cursor) → unexpected i ≢ fault.Memory
  unfolding unexpected
  not_memory i = λ z. cc

  at_end : (v : V) (j : ℕ) → ReadsWithin most F v 0 j → Answered (and_then (read_end (cursor ts end j)) (λ u k. Ok (v, k)))
  unfolding read_end
  at_end v j R = by (eqb j (length ts)) refl
    where
      by : (t : Bool) → eqb j (length ts) ≡ t → Answered (and_then (if◌then◌else◌ {A = Outcome (Unit {0})} t (Ok (tt, cursor ts end j)) (Err (unexpected (cursor ts end j)))) (λ u k. Ok (v, k)))
      by true e = subst (λ k. (F most).whole v 0 k) (eqb-true j (length ts) e) R.whole
      by false e = (not_memory (cursor ts end j), left_over v j R (λ f. let w : false ≡ true = sym e ∙ eq-eqb _ _ f in cc))

  -- r reads the form
  module _ (r : Reader V) (meets : Meets most F (cursor ts end 0) (r (cursor ts end 0))) where
    answered : Answered (whole_of r (cursor ts end 0))
    answered = by (r (cursor ts end 0)) meets
      where
        by : (o : Outcome V) → Meets most F (cursor ts end 0) o → Answered (and_then o (λ v j. and_then (read_end j) (λ u k. Ok (v, k))))
        by (Ok p) M = subst (λ z. Answered (and_then (read_end z) (λ u k. Ok (p.0, k)))) (sym M.0) (at_end p.0 p.1.place M.1)
        by (Err e) M = (lasting e M, refused e M)

    text_answers : (w : Result V TextFault) (new : Cursor) → Reads (whole_of r (cursor ts end 0)) w new → AnswersText F ts end w
    text_answers (Ok v) new e = subst Answered e answered
    text_answers (Err fault.Memory) new e = tt
    text_answers (Err (fault.Malformed m)) new e = (subst Answered (e (λ z. cc)) answered).1
    text_answers (Err (fault.Limit l)) new e = (subst Answered (e (λ z. cc)) answered).1

    -- a tree or a fault
    text_decided : ((v : V) × IsRead F ts v) ⊎ ((e : TextFault) × (e ≢ fault.Memory) × RefusesText F ts end e)
    text_decided = by (whole_of r (cursor ts end 0)) answered
      where
        by : (o : Outcome V) → Answered o → ((v : V) × IsRead F ts v) ⊎ ((e : TextFault) × (e ≢ fault.Memory) × RefusesText F ts end e)
        by (Ok p) A = inl (p.0, A)
        by (Err e) A = inr (e, A.0, A.1)

    module _ (over : V → Option Limit) where
      abbrev Counted : Outcome V → Type 0
      Counted (Ok p) = IsRead F ts p.0 × (over p.0 ≡ None)
      Counted (Err e) = RefusesCounted F over ts end e

      judged : (v : V) (j : Cursor) → IsRead F ts v → (o : Option Limit) → over v ≡ o → Counted (counted_outcome o v j)
      judged v j w None e = (w, e)
      judged v j w (Some l) e = inr (v, w, e)

      counted_answered : Counted (counted over (whole_of r) (cursor ts end 0))
      counted_answered = by (whole_of r (cursor ts end 0)) answered
        where
          by : (o : Outcome V) → Answered o → Counted (and_then o (λ v j. counted_outcome (over v) v j))
          by (Ok p) A = judged p.0 p.1 A (over p.0) refl
          by (Err (fault.Malformed m)) A = A.1
          by (Err (fault.Limit l)) A = inl A.1
          by (Err fault.Memory) A = tt

      text_counted : (w : Result V TextFault) (new : Cursor) → Reads (counted over (whole_of r) (cursor ts end 0)) w new → AnswersCounted F over ts end w
      text_counted (Ok v) new e = subst Counted e counted_answered
      text_counted (Err fault.Memory) new e = tt
      text_counted (Err (fault.Malformed m)) new e = subst Counted (e (λ z. cc)) counted_answered
      text_counted (Err (fault.Limit l)) new e = subst Counted (e (λ z. cc)) counted_answered

-- A text in which no recursive form stands.
module _ {V : Type 0} (f : Line V) (d : IsTrue (is_text f)) (ts : List Token) where
  line_ll1 : IsTrue (is_ll1 [] [] f)
  line_ll1 = and_left _ _ d

  line_closed : IsTrue (not (has (follow [] [] f) 0))
  line_closed = and_right (is_ll1 [] [] f) _ d

  abbrev LineForm : Form (at ts) V
  LineForm = form_of ts (no_again ts) f line_ll1

  line_meets : (end : ℕ) → Meets most (means f ts) (cursor ts end 0) (read_line f (cursor ts end 0))
  line_meets end = sound ts [] [] (λ l. no_form) (no_again ts) none most (lit≤ tt) (none_found ts most) f line_ll1 end 0

  -- each text has one tree at most, and a tree or a fault
  pub one_tree : (u v : V) → IsRead (means f ts) ts u → IsRead (means f ts) ts v → u ≡ v
  one_tree = one_tree_of ts 0 LineForm line_closed

  module _ (end : ℕ) where
    pub decided : ((v : V) × IsRead (means f ts) ts v) ⊎ ((e : TextFault) × (e ≢ fault.Memory) × RefusesText (means f ts) ts end e)
    decided = text_decided ts end LineForm line_closed (read_line f) (line_meets end)

    pub answers : (w : Result V TextFault) (new : Cursor) → Reads (read_text f (cursor ts end 0)) w new → AnswersText (means f ts) ts end w
    answers = text_answers ts end LineForm line_closed (read_line f) (line_meets end)

    pub only : (w : Result V TextFault) → AnswersText (means f ts) ts end w → AnswersTextOnly (means f ts) ts w
    only w A = answers_only (means f ts) ts end one_tree w A

    -- the same of a text whose tree may exceed a number
    pub answers_counted : (over : V → Option Limit) (w : Result V TextFault) (new : Cursor) → Reads (counted over (read_text f) (cursor ts end 0)) w new → AnswersCounted (means f ts) over ts end w
    answers_counted = text_counted ts end LineForm line_closed (read_line f) (line_meets end)

    pub only_counted : (over : V → Option Limit) (w : Result V TextFault) → AnswersCounted (means f ts) over ts end w → AnswersCountedOnly (means f ts) over ts w
    only_counted over w A = counted_only (means f ts) ts end one_tree over w A

-- A text in which a recursive form stands.
module _ {R V : Type 0} (x : Rec R) (f : Gram R V) (d : IsTrue (is_text_in x f)) (ts : List Token) where
  rec_ll1 : IsTrue (rec_is_ll1 x)
  rec_ll1 = and_left _ _ d

  gram_ll1 : IsTrue (is_ll1 x.begin x.behind f)
  gram_ll1 = and_left _ _ (and_right (rec_is_ll1 x) _ d)

  gram_closed : IsTrue (not (has (follow x.begin x.behind f) 0))
  gram_closed = and_right (is_ll1 x.begin x.behind f) _ (and_right (rec_is_ll1 x) _ d)

  abbrev GramForm : Form (at ts) V
  GramForm = form_of ts (again x ts rec_ll1) f gram_ll1

  gram_meets : (end : ℕ) → Meets most (means_in x f ts) (cursor ts end 0) (read_in x most.nesting f (cursor ts end 0))
  gram_meets end = sound ts x.begin x.behind _ (again x ts rec_ll1) (read_levels x most.height most.nesting) most (lit≤ tt) (levels_meet x ts rec_ll1 most.height (lit≤ tt) most.nesting) f gram_ll1 end 0

  pub one_tree_in : (u v : V) → IsRead (means_in x f ts) ts u → IsRead (means_in x f ts) ts v → u ≡ v
  one_tree_in = one_tree_of ts 0 GramForm gram_closed

  module _ (end : ℕ) where
    pub decided_in : ((v : V) × IsRead (means_in x f ts) ts v) ⊎ ((e : TextFault) × (e ≢ fault.Memory) × RefusesText (means_in x f ts) ts end e)
    decided_in = text_decided ts end GramForm gram_closed (read_in x most.nesting f) (gram_meets end)

    pub answers_in : (w : Result V TextFault) (new : Cursor) → Reads (read_text_in x f (cursor ts end 0)) w new → AnswersText (means_in x f ts) ts end w
    answers_in = text_answers ts end GramForm gram_closed (read_in x most.nesting f) (gram_meets end)

    pub only_in : (w : Result V TextFault) → AnswersText (means_in x f ts) ts end w → AnswersTextOnly (means_in x f ts) ts w
    only_in w A = answers_only (means_in x f ts) ts end one_tree_in w A
