-- A text has one tree or one fault, for any form of whole texts. For every layer that judges texts.
use Rattle.std.proofs.Common.{◌≡◌, ◌≢◌, ◌∙◌, ℕ, ◌<◌, inl, inr, List, Option, None, Some, Result, Ok, Err, refl, sym, ap, subst, arith}
use Rattle.sp_text.specs.declared.fault.Limit.{Limit}
use Rattle.sp_text.specs.declared.fault.Malformed.{Malformed}
use Rattle.sp_text.specs.declared.fault.Rule.TheVariants.{Unexpected}
use Rattle.sp_text.specs.declared.fault.TextFault.{TextFault}
use Rattle.sp_text.specs.declared.fault.TextFault.TheVariants as fault
use Rattle.sp_text.specs.declared.token.Token.{Token}
use Rattle.sp_grammar.specs.Codes.{place_of}
use Rattle.sp_grammar.specs.Lang.{Lang}
use Rattle.sp_grammar.specs.Texts.{IsFirstOff, IsOffEach, IsOver, IsRead, IsUnread, RefusesText, AnswersText, AnswersTextOnly, RefusesCounted, AnswersCounted, AnswersCountedOnly, ReadOrOver, quantity_of}
use Rattle.sp_grammar.specs.Within.{Budget, Limits, of_height, of_nesting}

module _ {V : Type 0} (F : Limits → Lang V) where
  same_place : (n m : ℕ) → IsFirstOff F n → IsFirstOff F m → n ≡ m
  same_place n m p q =
      let above : n < m → ⊥ = λ h. p.off (q.before n h) in
      let below : m < n → ⊥ = λ h. q.off (p.before m h) in
      omega arith

  same_budget : (a b : Budget) (n : ℕ) → IsOver F a n → IsOver F b n → a ≡ b
  same_budget of_height of_height n p q = refl
  same_budget of_height of_nesting n p q = absurd (q.same p.over.0 p.over.1.1 p.over.2)
  same_budget of_nesting of_height n p q = absurd (q.same p.over.0 p.over.1.0 p.over.2)
  same_budget of_nesting of_nesting n p q = refl

  not_over : (a : Budget) (n : ℕ) → IsOffEach F n → IsOver F a n → ⊥
  not_over a n off p = off p.over.0 p.over.2

  module _ (ts : List Token) (end : ℕ) where
    abbrev malformed_at : ℕ → Malformed
    malformed_at n = record { span = place_of ts end n; rule = Unexpected }

    abbrev limit_at : Budget → ℕ → Limit
    limit_at a n = record { span = place_of ts end n; quantity = quantity_of a }

    pub refused_once : (f g : TextFault) → f ≢ fault.Memory → g ≢ fault.Memory → RefusesText F ts end f → RefusesText F ts end g → f ≡ g
    refused_once (fault.Malformed f) (fault.Malformed g) _ _ p q =
        ap fault.Malformed (p.4 ∙ ap malformed_at (same_place p.0 q.0 p.1 q.1) ∙ sym q.4)
    refused_once (fault.Malformed f) (fault.Limit g) _ _ p q =
        absurd (not_over q.0 q.1 (subst (IsOffEach F) (same_place p.0 q.1 p.1 q.2) p.2) q.3)
    refused_once (fault.Limit f) (fault.Malformed g) _ _ p q =
        absurd (not_over p.0 p.1 (subst (IsOffEach F) (same_place q.0 p.1 q.1 p.2) q.2) p.3)
    refused_once (fault.Limit f) (fault.Limit g) _ _ p q =
        let place = same_place p.1 q.1 p.2 q.2 in
        let budget = same_budget p.0 q.0 q.1 (subst (IsOver F p.0) place p.3) q.3 in
        ap fault.Limit (p.5 ∙ ap (limit_at p.0) place ∙ ap (λ a. limit_at a q.1) budget ∙ sym q.5)
    refused_once fault.Memory g f_is _ p q = absurd (f_is refl)
    refused_once f fault.Memory _ g_is p q = absurd (g_is refl)

    pub unread : (f : TextFault) → f ≢ fault.Memory → RefusesText F ts end f → IsUnread F ts
    unread (fault.Malformed f) _ p = p.3
    unread (fault.Limit f) _ p = p.4
    unread fault.Memory is p = absurd (is refl)

    -- where each text has one tree at most
    module _ (one : (u v : V) → IsRead F ts u → IsRead F ts v → u ≡ v) where
      -- two answers that aren't out of memory are one
      pub answered_once : (r s : Result V TextFault) → r ≢ Err fault.Memory → s ≢ Err fault.Memory → AnswersText F ts end r → AnswersText F ts end s → r ≡ s
      answered_once (Ok u) (Ok v) m k p q = ap Ok (one u v p q)
      answered_once (Ok u) (Err f) m k p q = absurd (unread f (λ e. k (ap Err e)) q u p)
      answered_once (Err f) (Ok v) m k p q = absurd (unread f (λ e. m (ap Err e)) p v q)
      answered_once (Err f) (Err g) m k p q = ap Err (refused_once f g (λ e. m (ap Err e)) (λ e. k (ap Err e)) p q)

      pub answers_only : (r : Result V TextFault) → AnswersText F ts end r → AnswersTextOnly F ts r
      answers_only (Ok u) A v w = one u v A w
      answers_only (Err (fault.Malformed m)) A v w = absurd (A.3 v w)
      answers_only (Err (fault.Limit l)) A v w = absurd (A.4 v w)
      answers_only (Err fault.Memory) A v w = refl

      -- the same of texts whose trees may exceed a number
      module _ (over : V → Option Limit) where
        within_none : (u v : V) → IsRead F ts v → IsRead F ts u × (over u ≡ None) → (o : Option Limit) → over v ≡ o → ReadOrOver v o (Ok u)
        within_none u v w A None e = one u v A.0 w
        within_none u v w A (Some l) e =
            let p : over u ≡ Some l = ap over (one u v A.0 w) ∙ e in
            let q : None ≡ Some l = sym A.1 ∙ p in
            absurd cc

        beyond : (f : TextFault) (v : V) → IsRead F ts v → RefusesCounted F over ts end f → (o : Option Limit) → over v ≡ o → ReadOrOver v o (Err f)
        beyond (fault.Malformed m) v w A o e = absurd (A.3 v w)
        beyond (fault.Limit l) v w (inl A) o e = absurd (A.4 v w)
        beyond (fault.Limit l) v w (inr (u, y, p)) None e =
            let q : over u ≡ None = ap over (one u v y w) ∙ e in
            let z : Some l ≡ None = sym p ∙ q in
            absurd cc
        beyond (fault.Limit l) v w (inr (u, y, p)) (Some k) e =
            let q : Some l ≡ Some k = sym p ∙ ap over (one u v y w) ∙ e in
            λ _. cc
        beyond fault.Memory v w A None e = refl
        beyond fault.Memory v w A (Some l) e = λ n. absurd (n refl)

        pub counted_only : (r : Result V TextFault) → AnswersCounted F over ts end r → AnswersCountedOnly F over ts r
        counted_only (Ok u) A v w = within_none u v w A (over v) refl
        counted_only (Err f) A v w = beyond f v w A (over v) refl
