-- What the reader of each way to put forms together finds, from what the readers of its parts find.
use Rattle.std.proofs.Common.{◌≡◌, ℕ, ℤ, zero, suc, ◌+◌, ◌≤◌, inl, inr, Bool, true, false, eqb, IsTrue, List, [], ◌∷◌, ◌++◌, length, Option, Some, None, Ok, Err, if◌then◌else◌, refl, sym, subst, arith, slice_get, lit<}
use Rattle.std.proofs.lemmas.Bool.{eqb-true, eq-eqb}
use Rattle.sp_text.specs.declared.fault.Span.{Span}
use Rattle.sp_text.specs.declared.token.Token.{Token}
use Rattle.sp_text.specs.declared.token.TokenKind.{TokenKind}
use Rattle.sp_text.specs.declared.token.TokenKind.TheVariants as kind
use Rattle.sp_text.specs.declared.fault.TextFault.{TextFault}
use Rattle.sp_text.specs.declared.fault.TextFault.TheVariants as fault
use Rattle.sp_tree.specs.declared.names.Ident.{Ident}
use Rattle.sp_tree.specs.declared.expr.ExprTree.{ExprTree}
use Rattle.sp_grammar.specs.Codes.{name_code, number_code}
use Rattle.sp_grammar.specs.Lang as lang
use Rattle.sp_grammar.specs.Lang.{Lang, Prefix, has, apart}
use Rattle.sp_grammar.specs.Within.{Limits, of_height, ReadsWithin, StopsWithin, Halt, stops, exceeds, RefusesWithin}
use Rattle.sp_grammar.proofs.Laws.{apart-has}
use Rattle.sp_grammar.proofs.Chain.{sub_refl, sub_prefix, swap_either}
use Rattle.sp_grammar.proofs.Forms.{Form, some_form}
use Rattle.sp_grammar.proofs.Within.{reads_both, refuses_second, refuses_first, reads_made, refuses_made, reads_chosen, refuses_chosen, reads_token, stops_token, reads_omitted, reads_given, refuses_given, ManyWithin, none_yet, and_one, reads_all, refuses_one, some, reads_not_from, refuses_not_from}
use Rattle.sp_grammar.proofs.Tokens.{no_name, no_number, no_token}
use Rattle.sp_expression.specs.Grammar.{at, ident, digits, expression}
use Rattle.sp_expression.proofs.Decisions.{Decision, decide_expression, end_code}
use Rattle.sp_expression.proofs.Laws.{ident_code, number_code_at}
use Rattle.sp_forms.specs.Cursors.{Cursor, lookahead, next, unexpected, too_high, Outcome, Reader, and_then}
use Rattle.sp_forms.specs.Answers.{FailsWithin, Meets}
use Rattle.sp_forms.specs.Readers.{read_token, read_name, read_digits, kind_name, kind_digits, name_or, digits_or, found_outcome, read_expr, items}
use Rattle.sp_forms.proofs.Laws.{grown}

-- a cursor over these tokens
abbrev pub cursor : List Token → ℕ → ℕ → Cursor
cursor ts end i = record { tokens = ts; end = end; place = i }

module _ (ts : List Token) where
  -- the reader finds the form at each place
  abbrev pub Finds : {V : Type 0} → Limits → (Limits → Lang V) → Reader V → Type 0
  Finds b F r = (end i : ℕ) → Meets b F (cursor ts end i) (r (cursor ts end i))

  pub fails_by : {V W : Type 0} {b k : Limits} {F : Limits → Lang V} {G : Limits → Lang W} {i j : ℕ} → ((r : Halt) → RefusesWithin b F i r → RefusesWithin k G j r)
      → (end : ℕ) (e : TextFault) → FailsWithin b F ts end i e → FailsWithin k G ts end j e
  fails_by P end (fault.Malformed m) (n, S, p) = (n, P (stops n) S, p)
  fails_by P end (fault.Limit l) (q, n, X, p) = (q, n, P (exceeds q n) X, p)
  fails_by P end fault.Memory p = p

  -- a test decides
  pub by_test : {X : Type 0} (P : X → Type 0) (t : Bool) (x y : X) → (IsTrue t → P x) → ((IsTrue t → ⊥) → P y) → P (if t then x else y)
  by_test P true x y f g = f refl
  by_test P false x y f g = g (λ e. cc)

  pub stops_here : {V : Type 0} (b : Limits) (F : Limits → Lang V) (end i : ℕ) → StopsWithin b F i i → FailsWithin b F ts end i (unexpected (cursor ts end i))
  unfolding unexpected
  stops_here b F end i S = (i, S, refl)

  -- single tokens

  pub meets_token : (c : ℕ) (b : Limits) → Finds b (λ l. lang.token (at ts) c) (read_token c)
  unfolding read_token lookahead next
  meets_token c b end i = by_test (Meets b (λ l. lang.token (at ts) c) (cursor ts end i)) (eqb c (at ts i)) _ _
      (λ e. (refl, reads_token (at ts) c b i (sym (eqb-true c (at ts i) e))))
      (λ ne. stops_here b (λ l. lang.token (at ts) c) end i (stops_token (at ts) c b i (λ f. ne (eq-eqb c (at ts i) (sym f)))))

  name_read : (b : Limits) (i : ℕ) (v : Ident) → slice_get ts i ≡ Some (record { kind = kind.Name v.name; span = v.span }) → ReadsWithin b (λ l. ident ts) v i (suc i)
  name_read b i v e = record { whole = (e, refl); front = λ l m p. elim p [ inl x ↦ omega arith | inr x ↦ omega (arith, x.1.1) ] }

  name_stops : (b : Limits) (i : ℕ) → (at ts i ≡ name_code → ⊥) → StopsWithin b (λ l. ident ts) i i
  name_stops b i ne = record {
    so_far = inl refl;
    front = λ l m p. elim p [ inl x ↦ omega arith | inr (v, x) ↦ absurd (ne (ident_code ts v i x.0)) ];
    not_whole = λ l v w. ne (ident_code ts v i w.0);
  }

  pub meets_name : (b : Limits) → Finds b (λ l. ident ts) read_name
  unfolding read_name next
  meets_name b end i = by (slice_get ts i) refl
    where
      off : (at ts i ≡ name_code → ⊥) → FailsWithin b (λ l. ident ts) ts end i (unexpected (cursor ts end i))
      off ne = stops_here b (λ l. ident ts) end i (name_stops b i ne)

      by_kind : (k : TokenKind) (s : Span) → slice_get ts i ≡ Some (record { kind = k; span = s }) → Meets b (λ l. ident ts) (cursor ts end i) (kind_name k s (cursor ts end i))
      by_kind (kind.Name n) s e = (refl, name_read b i (record { name = n; span = s }) e)
      by_kind (kind.Word w) s e = off (no_name ts i _ e (λ n f. cc))
      by_kind (kind.Symbol w) s e = off (no_name ts i _ e (λ n f. cc))
      by_kind (kind.Number w) s e = off (no_name ts i _ e (λ n f. cc))

      by : (o : Option Token) → slice_get ts i ≡ o → Meets b (λ l. ident ts) (cursor ts end i) (name_or o (cursor ts end i))
      by None e = off (no_token ts i e name_code (lit< tt))
      by (Some t) e = by_kind t.kind t.span e

  digits_read : (b : Limits) (i : ℕ) (v : ℤ) (s : Span) → slice_get ts i ≡ Some (record { kind = kind.Number v; span = s }) → ReadsWithin b (λ l. digits ts) v i (suc i)
  digits_read b i v s e = record { whole = ((s, e), refl); front = λ l m p. elim p [ inl x ↦ omega arith | inr x ↦ omega (arith, x.1.1) ] }

  digits_stops : (b : Limits) (i : ℕ) → (at ts i ≡ number_code → ⊥) → StopsWithin b (λ l. digits ts) i i
  digits_stops b i ne = record {
    so_far = inl refl;
    front = λ l m p. elim p [ inl x ↦ omega arith | inr (v, x) ↦ absurd (ne (number_code_at ts v x.0.0 i x.0.1)) ];
    not_whole = λ l v w. ne (number_code_at ts v w.0.0 i w.0.1);
  }

  pub meets_digits : (b : Limits) → Finds b (λ l. digits ts) read_digits
  unfolding read_digits next
  meets_digits b end i = by (slice_get ts i) refl
    where
      off : (at ts i ≡ number_code → ⊥) → FailsWithin b (λ l. digits ts) ts end i (unexpected (cursor ts end i))
      off ne = stops_here b (λ l. digits ts) end i (digits_stops b i ne)

      by_kind : (k : TokenKind) (s : Span) → slice_get ts i ≡ Some (record { kind = k; span = s }) → Meets b (λ l. digits ts) (cursor ts end i) (kind_digits k (cursor ts end i))
      by_kind (kind.Number n) s e = (refl, digits_read b i n s e)
      by_kind (kind.Word w) s e = off (no_number ts i _ e (λ n f. cc))
      by_kind (kind.Symbol w) s e = off (no_number ts i _ e (λ n f. cc))
      by_kind (kind.Name w) s e = off (no_number ts i _ e (λ n f. cc))

      by : (o : Option Token) → slice_get ts i ≡ o → Meets b (λ l. digits ts) (cursor ts end i) (digits_or o (cursor ts end i))
      by None e = off (no_token ts i e number_code (lit< tt))
      by (Some t) e = by_kind t.kind t.span e

  -- an expression

  abbrev Expr : Limits → Lang ExprTree
  Expr l = expression ts l.height

  found_meets : (b : Limits) (end i : ℕ) → (x : Decision (expression ts) b.height i) → Meets b Expr (cursor ts end i) (found_outcome (cursor ts end i) x)
  unfolding unexpected too_high
  found_meets b end i (inl (v, h, j, M)) = (refl, record { whole = (grown ts h b.height M.fits).whole v i j M.whole; front = λ l m p. M.front l.height m p })
  found_meets b end i (inr (lang.stops n, S)) = (n, record { so_far = S.so_far; front = λ l m p. S.front l.height m p; not_whole = λ l v w. S.not_whole l.height v w }, refl)
  found_meets b end i (inr (lang.exceeds n, E)) = (
    of_height,
    n,
    record {
      so_far = E.so_far;
      front = λ l m y q. E.front m (subst (λ z. Prefix (expression ts z) i m) y q);
      over = (
        record { height = b.height + E.over.0; nesting = b.nesting },
        (omega arith, refl),
        sub_prefix (expression ts (E.over.0)) (expression ts (b.height + E.over.0)) i (suc n) (grown ts (E.over.0) (b.height + E.over.0) (omega arith)) E.over.1,
      );
    },
    refl,
  )

  pub meets_expr : (h n : ℕ) → 1 ≤ h → Finds (record { height = h; nesting = n }) (λ l. expression ts l.height) (read_expr h)
  unfolding read_expr
  meets_expr zero n u end i = absurd (omega arith)
  meets_expr (suc h) n u end i = found_meets (record { height = suc h; nesting = n }) end i (decide_expression ts h i)

  -- f, then g

  module _ {A B : Type 0} (f : Form (at ts) A) (g : Form (at ts) B) (clear : IsTrue (apart f.more g.first)) (b : Limits) (h : 1 ≤ b.height) (s : Reader B) (G : Finds b g.form s) where
    abbrev Both : Limits → Lang (A × B)
    Both l = lang.seq (f.form l) (g.form l)

    then_reads : (end i k : ℕ) (v : A) → ReadsWithin b f.form v i k → (w : Outcome B) → Meets b g.form (cursor ts end k) w → Meets b Both (cursor ts end i) (and_then w (λ u j. Ok ((v, u), j)))
    then_reads end i k v W (Ok p) M = (M.0, reads_both (at ts) f g clear b i v k W p.1.place p.0 M.1)
    then_reads end i k v W (Err w) M = fails_by (refuses_second (at ts) f g clear b i v k W) end w M

    pub meets_seq : (end i : ℕ) (w : Outcome A) → Meets b f.form (cursor ts end i) w → Meets b Both (cursor ts end i) (and_then w (λ v j. and_then (s j) (λ u k. Ok ((v, u), k))))
    meets_seq end i (Ok p) M = subst (λ m. Meets b Both (cursor ts end i) (and_then (s m) (λ u k. Ok ((p.0, u), k)))) (sym M.0)
        (then_reads end i p.1.place p.0 M.1 (s (cursor ts end p.1.place)) (G end p.1.place))
    meets_seq end i (Err w) M = fails_by (refuses_first (at ts) f g clear b i h) end w M

  -- what is made of f

  pub meets_made : {A B : Type 0} (k : List Token → A → ℕ → ℕ → B) (F : Limits → Lang A) (b : Limits) (end i : ℕ) (w : Outcome A) → Meets b F (cursor ts end i) w
      → Meets b (λ l. lang.made (k ts) (F l)) (cursor ts end i) (and_then w (λ v j. Ok (k j.tokens v i j.place, j)))
  meets_made k F b end i (Ok p) M = subst (λ m. Meets b (λ l. lang.made (k ts) (F l)) (cursor ts end i) (Ok (k m.tokens p.0 i m.place, m))) (sym M.0) (refl, reads_made (k ts) F b i p.1.place p.0 M.1)
  meets_made k F b end i (Err w) M = fails_by (refuses_made (k ts) F b i) end w M

  -- f or g

  module _ {V : Type 0} (f g : Form (at ts) V) (p : f.null ≡ false) (q : g.null ≡ false) (clear : IsTrue (apart f.first g.first)) (b : Limits) (end i : ℕ) where
    abbrev Choice : Limits → Lang V
    Choice l = lang.either (f.form l) (g.form l)

    pub meets_left : IsTrue (has f.first (at ts i)) → (w : Outcome V) → Meets b f.form (cursor ts end i) w → Meets b Choice (cursor ts end i) w
    meets_left s (Ok y) M = (M.0, reads_chosen (at ts) f g p q b i (apart-has f.first g.first (at ts i) clear s) Choice (λ l. sub_refl _) (λ l. sub_refl _) y.1.place y.0 M.1)
    meets_left s (Err w) M = fails_by (refuses_chosen (at ts) f g p q b i (apart-has f.first g.first (at ts i) clear s) Choice (λ l. sub_refl _) (λ l. sub_refl _)) end w M

    pub meets_right : (IsTrue (has f.first (at ts i)) → ⊥) → (w : Outcome V) → Meets b g.form (cursor ts end i) w → Meets b Choice (cursor ts end i) w
    meets_right off (Ok y) M = (M.0, reads_chosen (at ts) g f q p b i off Choice (λ l. swap_either _ _) (λ l. swap_either _ _) y.1.place y.0 M.1)
    meets_right off (Err w) M = fails_by (refuses_chosen (at ts) g f q p b i off Choice (λ l. swap_either _ _) (λ l. swap_either _ _)) end w M

  -- where a form may begin
  abbrev pub Opens : {V : Type 0} → List ℕ → (Limits → Lang V) → Type 0
  Opens fs F = (i : ℕ) → IsTrue (has fs (at ts i)) → (l : Limits) × (1 ≤ l.height) × Prefix (F l) i (suc i)

  -- f or nothing, and any number of f

  module _ {V : Type 0} (f : Form (at ts) V) (p : f.null ≡ false) (opens : Opens f.first f.form) (b : Limits) where
    pub meets_given : (end i : ℕ) → IsTrue (has f.first (at ts i)) → (w : Outcome V) → Meets b f.form (cursor ts end i) w
        → Meets b (λ l. lang.optional (f.form l)) (cursor ts end i) (and_then w (λ v j. Ok (Some v, j)))
    meets_given end i s (Ok y) M = (M.0, reads_given (at ts) f p b i y.1.place y.0 M.1)
    meets_given end i s (Err w) M = let (l, lh, y) = opens i s in fails_by (refuses_given (at ts) f p b i l y) end w M

    pub meets_omitted : (end i : ℕ) → (IsTrue (has f.first (at ts i)) → ⊥) → Meets b (λ l. lang.optional (f.form l)) (cursor ts end i) (Ok (None, cursor ts end i))
    meets_omitted end i off = (refl, reads_omitted (at ts) f p b i off)

    module _ (clear : IsTrue (apart f.more f.first)) (no_end : IsTrue (has f.first 0) → ⊥) (r : Reader V) (R : Finds b f.form r) (end i : ℕ) where
      abbrev Many : List V → ℕ → ℕ → Type 0
      Many = ManyWithin (at ts) f p clear b

      abbrev All : Outcome (List V) → Type 0
      All = Meets b (λ l. lang.star (f.form l)) (cursor ts end i)

      -- an item, then what n more items are
      one_more : (n : ℕ) → ((found : List V) (k : ℕ) → Many found i k → length ts ≤ k + n → All (items f.first r n found (cursor ts end k)))
          → (found : List V) (k : ℕ) → Many found i k → length ts ≤ k + suc n → IsTrue (has f.first (at ts k)) → (w : Outcome V) → Meets b f.form (cursor ts end k) w
          → All (and_then w (λ v. items f.first r n (found ++ v ∷ [])))
      one_more n rest found k M u s (Ok y) W = subst (λ m. All (items f.first r n (found ++ y.0 ∷ []) m)) (sym W.0)
          (let lt = some (at ts) f p b y.0 k y.1.place W.1.whole in
          rest (found ++ y.0 ∷ []) y.1.place (and_one (at ts) f p clear b M W.1) (omega arith))
      one_more n rest found k M u s (Err w) W = let (l, lh, y) = opens k s in fails_by (refuses_one (at ts) f p clear b M l y) end w W

      items_meet : (n : ℕ) (found : List V) (k : ℕ) → Many found i k → length ts ≤ k + n → All (items f.first r n found (cursor ts end k))
      unfolding items lookahead
      items_meet zero found k M u = (refl, reads_all (at ts) f p clear b M (λ s. no_end (subst (λ z. IsTrue (has f.first z)) (end_code ts k (omega arith)) s)))
      items_meet (suc n) found k M u = by_test All (has f.first (at ts k)) _ _
          (λ s. one_more n (items_meet n) found k M u s (r (cursor ts end k)) (R end k))
          (λ off. (refl, reads_all (at ts) f p clear b M off))

      pub meets_star : (n : ℕ) → length ts ≤ i + n → All (items f.first r n [] (cursor ts end i))
      meets_star n u = items_meet n [] i (none_yet (at ts) f p clear b i) u

  -- f that begins with none of these, where none is there

  pub meets_not_from : {V : Type 0} (xs : List ℕ) (F : Limits → Lang V) (b : Limits) (end i : ℕ) → (IsTrue (has xs (at ts i)) → ⊥) → (w : Outcome V) → Meets b F (cursor ts end i) w
      → Meets b (λ l. lang.not_from (at ts) xs (F l)) (cursor ts end i) w
  meets_not_from xs F b end i off (Ok y) M = (M.0, reads_not_from (at ts) xs F b i off y.1.place y.0 M.1)
  meets_not_from xs F b end i off (Err w) M = fails_by (refuses_not_from (at ts) xs F b i off) end w M
