-- The steps of Places and Lists, for both refusals at once.
use Rattle.std.proofs.Common.{ℕ, suc, zero, ◌<◌, ◌≤◌, inl, inr, Bool, false, IsTrue, List, arith}
use Rattle.sp_grammar.specs.Lang.{Lang, Prefix, nothing, seq, either, made, star, has, apart, Measures, Refusal, stops, exceeds, place, Refuses}
use Rattle.sp_grammar.proofs.Laws.{Fine, le_span}
use Rattle.sp_grammar.proofs.Chain.{Sub}
use Rattle.sp_grammar.proofs.Places.{Goes, seq_second_stops, seq_second_exceeds, seq_first_stops, seq_first_exceeds, made_stops, made_exceeds, either_stops, either_exceeds, lower_stops, lower_exceeds}
use Rattle.sp_grammar.proofs.Lists.{Many, item_stops, item_exceeds}

pub ahead_prefix : {V : Type 0} (at : ℕ → ℕ) (null : Bool) (first more : List ℕ) (f : Lang V) → Fine at null first more f → (i m : ℕ) → Prefix f i m → i ≤ m
ahead_prefix at null first more f F i m (inl p) = F.ahead i m p
ahead_prefix at null first more f F i m (inr (v, w)) = le_span i m _ (F.span v i m w)

pub refuses_ahead : {V : Type 0} (at : ℕ → ℕ) (null : Bool) (first more : List ℕ) (F : ℕ → Lang V) → ((b : ℕ) → Fine at null first more (F b)) → (b i : ℕ) (r : Refusal) → Refuses F b i r → i ≤ place r
refuses_ahead at null first more F W b i (stops n) S = ahead_prefix at null first more (F b) (W b) i n S.so_far
refuses_ahead at null first more F W b i (exceeds n) E = ahead_prefix at null first more (F b) (W b) i n E.so_far

pub refuses_made : {A B : Type 0} (h : A → ℕ → ℕ → B) (F : ℕ → Lang A) (b i : ℕ) (r : Refusal) → Refuses F b i r → Refuses (λ c. made h (F c)) b i r
refuses_made h F b i (stops n) S = made_stops h F b i n S
refuses_made h F b i (exceeds n) E = made_exceeds h F b i n E

module _ {A B : Type 0} (at : ℕ → ℕ) (nf ng : Bool) (first_f more_f first_g more_g : List ℕ) (F : ℕ → Lang A) (G : ℕ → Lang B)
    (WF : Goes at nf first_f more_f F) (WG : Goes at ng first_g more_g G) (clear : IsTrue (apart more_f first_g)) (b i : ℕ) where
  pub refuses_second : (h k : ℕ) (v : A) (r : Refusal) → Measures F b v h i k → Refuses G b k r → Refuses (λ c. seq (F c) (G c)) b i r
  refuses_second h k v (stops n) M S = seq_second_stops at nf ng first_f more_f first_g more_g F G WF WG clear b h i k n v M S
  refuses_second h k v (exceeds n) M S = seq_second_exceeds at nf ng first_f more_f first_g more_g F G WF WG clear b h i k n v M S

  pub refuses_first : (r : Refusal) → ((c m : ℕ) → Prefix (G c) m m) → Refuses F b i r → Refuses (λ c. seq (F c) (G c)) b i r
  refuses_first (stops n) e S = seq_first_stops at nf ng first_f more_f first_g more_g F G WF WG clear b i n e S
  refuses_first (exceeds n) e S = seq_first_exceeds at nf ng first_f more_f first_g more_g F G WF WG clear b i n e S

pub refuses_lower : {V : Type 0} (F L : ℕ → Lang V) (out : (b : ℕ) → Sub (L (suc b)) (F b)) (back : (b : ℕ) → Sub (F b) (L (suc b))) (none : Sub (L zero) nothing)
    (b i : ℕ) (r : Refusal) → Refuses F b i r → Refuses L (suc b) i r
refuses_lower F L out back none b i (stops n) S = lower_stops F L out back none b i n S
refuses_lower F L out back none b i (exceeds n) S = lower_exceeds F L out back none b i n S

pub refuses_either : {V : Type 0} (at : ℕ → ℕ) (first_a more_a first_b more_b : List ℕ) (A B E : ℕ → Lang V)
    (FA : (b : ℕ) → Fine at false first_a more_a (A b)) (FB : (b : ℕ) → Fine at false first_b more_b (B b))
    (out : (b : ℕ) → Sub (E b) (either (A b) (B b))) (back : (b : ℕ) → Sub (either (A b) (B b)) (E b))
    (i : ℕ) → (IsTrue (has first_b (at i)) → ⊥) → (b : ℕ) (r : Refusal) → Refuses A b i r → Refuses E b i r
refuses_either at fa ma fb mb A B E FA FB out back i off b (stops n) S = either_stops at fa ma fb mb A B E FA FB out back i off b n (ahead_prefix at false fa ma (A b) (FA b) i n S.so_far) S
refuses_either at fa ma fb mb A B E FA FB out back i off b (exceeds n) S = either_exceeds at fa ma fb mb A B E FA FB out back i off b n (ahead_prefix at false fa ma (A b) (FA b) i n S.so_far) S

pub refuses_item : {V : Type 0} (at : ℕ → ℕ) (first more : List ℕ) (F : ℕ → Lang V) (fine : (b : ℕ) → Fine at false first more (F b)) (grows : (b : ℕ) → Sub (F b) (F (suc b))) (clear : IsTrue (apart more first))
    (vs : List V) (h i k : ℕ) → Many at first more F fine grows clear vs h i k → (b : ℕ) → h ≤ b → (r : Refusal) → k < place r → Refuses F b k r → Refuses (λ c. star (F c)) b i r
refuses_item at first more F fine grows clear vs h i k M b fit (stops n) lt S = item_stops at first more F fine grows clear vs h i k M b n fit lt S
refuses_item at first more F fine grows clear vs h i k M b fit (exceeds n) lt S = item_exceeds at first more F fine grows clear vs h i k M b n fit (omega arith) S
