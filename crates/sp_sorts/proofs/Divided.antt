-- Bytes are divided into lines in one way, so they spell one certificate file at most, or have one first fault.
use Rattle.std.proofs.Common.{◌≡◌, ◌∙◌, ◌⊎◌, ℕ, zero, suc, ◌+◌, ◌&&◌, not, eqb, Bool, true, false, List, [], ◌∷◌, ◌++◌, append_assoc, append-nil, length, map, Ok, Err, ap, inl, inr, refl, sym, subst}
use Rattle.sp_text.specs.declared.fault.Limit.{Limit}
use Rattle.sp_text.specs.declared.fault.Malformed.{Malformed}
use Rattle.sp_text.specs.declared.fault.Quantity.{Quantity}
use Rattle.sp_text.specs.declared.fault.Rule.{Rule}
use Rattle.sp_text.specs.declared.fault.Span.{Span}
use Rattle.sp_text.specs.declared.fault.TextFault.{TextFault}
use Rattle.sp_text.specs.declared.fault.TextFault.TheVariants as fault
use Rattle.sp_rules.specs.declared.fact.Step.{Step}
use Rattle.sp_cert.specs.declared.cert.CertFile.{CertFile}
use Rattle.sp_cert.specs.Answers.{Answers, Begins, EndsEarly, Misfits, Stands, TooDeep, feed_free}
use Rattle.sp_cert.specs.Input.{behind, line}
use Rattle.sp_cert.specs.Spelling.{formula_lines, lines, spelling, step_line, text, tree_lines}
use Rattle.sp_cert.specs.Tree.{File, Leaf, Split, Steps, Tree, file_of}
use Rattle.sp_cert.specs.Within.{AreSteps, AreTrees, IsFile, IsTree}
use Rattle.sp_cert.proofs.File.{one_spelling}
use Rattle.sp_cert.proofs.Inputs.{free_first, free_formula, free_leaf, free_split, free_step, free_steps, line_is}
use Rattle.sp_cert.proofs.LineLaws.{small_format}
use Rattle.sp_frame.specs.Laws.{IsOnce}
use Rattle.sp_frame.specs.Steps.{Tells}
use Rattle.sp_sorts.specs.Certificates.{CertificatesRead}

-- ---- what reading tells

pub told_file : (bytes : List ℕ) (f : CertFile) → Answers bytes (Ok f) → Tells (CertificatesRead bytes) (Ok (file_of f))
told_file bytes f h = h

pub told_fault : (bytes : List ℕ) (f : TextFault) → Answers bytes (Err f) → Tells (CertificatesRead bytes) (Err f)
told_fault bytes (fault.Malformed m) h = h
told_fault bytes (fault.Limit l) h = h
told_fault bytes fault.Memory h = tt

-- ---- the lines of a file have no line feeds

abbrev AreFree : List (List ℕ) → Type 0
AreFree [] = Unit {0}
AreFree (l ∷ ls) = (feed_free l ≡ true) × AreFree ls

free_both : (ls ms : List (List ℕ)) → AreFree ls → AreFree ms → AreFree (ls ++ ms)
free_both [] ms f g = g
free_both (l ∷ ls) ms f g = (f.0, free_both ls ms f.1 g)

free_front : (ls ms : List (List ℕ)) → AreFree (ls ++ ms) → AreFree ls
free_front [] ms f = tt
free_front (l ∷ ls) ms f = (f.0, free_front ls ms f.1)

free_list : (ss : List Step) → AreSteps ss → AreFree (map step_line ss)
free_list [] h = tt
free_list (s ∷ ss) h = (free_step s h.0, free_list ss h.1)

free_tree : (v b : ℕ) (t : Tree) → IsTree v b t → AreFree (tree_lines t)
free_tree v zero (Leaf ss) h = (free_leaf (length ss) h.0, free_list ss h.1)
free_tree v (suc b) (Leaf ss) h = (free_leaf (length ss) h.0, free_list ss h.1)
free_tree v zero (Split a t f) h = absurd h
free_tree v zero (Steps ss t) h = absurd h
free_tree v (suc b) (Split a t f) h = (free_split a h.0, free_both (tree_lines t) (tree_lines f) (free_tree v b t h.1) (free_tree v b f h.2))
free_tree v (suc b) (Steps ss t) h = (free_steps (length ss) h.0, free_both (map step_line ss) (tree_lines t) (free_list ss h.1) (free_tree v b t h.2))

free_trees : (v b n : ℕ) (ts : List Tree) → AreTrees v b n ts → AreFree (formula_lines n ts)
free_trees v b n [] h = tt
free_trees v b n (t ∷ ts) h = (free_formula n h.0, free_both (tree_lines t) (formula_lines (n + 1) ts) (free_tree v b t h.1) (free_trees v b (n + 1) ts h.2))

free_file : (b : ℕ) (f : File) → IsFile b f → AreFree (lines f)
free_file b f h = (free_first f.format (small_format f.format h.format), free_trees f.format b 1 f.trees h.trees)

free_begun : (b : ℕ) (ls : List (List ℕ)) → Begins b ls → AreFree ls
free_begun b ls h = free_front ls h.more (subst AreFree h.is (free_file b h.file h.good))

-- ---- bytes are divided into lines in one way

last : (p q : Bool) → (p && q) ≡ true → q ≡ true
last true q e = e
last false q e = absurd cc

-- a line feed
fed : (l r : List ℕ) → feed_free (l ++ (10 ∷ r)) ≡ true → ⊥
fed [] r e = absurd cc
fed (b ∷ l) r e = fed l r (last (not (eqb b 10)) (feed_free (l ++ (10 ∷ r))) e)

one_line : (l m r s : List ℕ) → feed_free l ≡ true → feed_free m ≡ true → l ++ (10 ∷ r) ≡ m ++ (10 ∷ s) → (l ≡ m) × (r ≡ s)
one_line l m r s f g e =
    let h = line_is l r f in
    let k = line_is m s g in
    (sym h.0 ∙ ap line e ∙ k.0, (let same = sym h.1 ∙ ap behind e ∙ k.1 in cc))

-- the first lines and what is left, with more lines
abbrev GoesOn : List (List ℕ) → List ℕ → List (List ℕ) → List ℕ → Type 0
GoesOn ls r ms s = (more : List (List ℕ)) × (ms ≡ ls ++ more) × (r ≡ text more ++ s)

goes_on : (l : List ℕ) (m : List ℕ) (ls ms : List (List ℕ)) (r s : List ℕ) → l ≡ m → GoesOn ls r ms s → GoesOn (l ∷ ls) r (m ∷ ms) s
goes_on l m ls ms r s e (more, is, left) = (more, ap (λ k. k ∷ ms) (sym e) ∙ ap (λ ks. l ∷ ks) is, left)

divided : (ls ms : List (List ℕ)) (r s : List ℕ) → AreFree ls → AreFree ms → text ls ++ r ≡ text ms ++ s → GoesOn ls r ms s ⊎ GoesOn ms s ls r
divided [] ms r s f g e = inl (ms, refl, e)
divided (l ∷ ls) [] r s f g e = inr (l ∷ ls, refl, sym e)
divided (l ∷ ls) (m ∷ ms) r s f g e = by (divided ls ms r s f.1 g.1 h.1)
  where
    h : (l ≡ m) × (text ls ++ r ≡ text ms ++ s)
    h = one_line l m (text ls ++ r) (text ms ++ s) f.0 g.0 (sym (append_assoc l (10 ∷ text ls) r) ∙ e ∙ append_assoc m (10 ∷ text ms) s)

    by : GoesOn ls r ms s ⊎ GoesOn ms s ls r → GoesOn (l ∷ ls) r (m ∷ ms) s ⊎ GoesOn (m ∷ ms) s (l ∷ ls) r
    by (inl x) = inl (goes_on l m ls ms r s h.0 x)
    by (inr x) = inr (goes_on m l ms ls s r (sym h.0) x)

-- ---- the place of a fault

abbrev span_of : ℕ → ℕ → Span
span_of start end = record { start = start; end = end }

-- a line ends the text, or more stands behind it
abbrev IsEnd : List ℕ → Type 0
IsEnd rest = (rest ≡ []) ⊎ ((more : List ℕ) × (rest ≡ 10 ∷ more))

-- The lines before begin a text, and with this line, where it is whole, they begin none.
record Stop (bytes : List ℕ) (s : Span) : Type 0 where
  pub before : List (List ℕ)
  pub line : List ℕ
  pub rest : List ℕ
  pub stands : Stands bytes s before line rest
  pub begun : Begins 64 before
  pub end : IsEnd rest
  pub refused : (more : List ℕ) → rest ≡ 10 ∷ more → Begins 64 (before ++ line ∷ []) → ⊥

abbrev misfit_stop : (bytes : List ℕ) (s : Span) → Misfits bytes s → Stop bytes s
misfit_stop bytes s m = record {
  before = m.before;
  line = m.line;
  rest = 10 ∷ m.more;
  stands = m.stands;
  begun = m.begun;
  end = inr (m.more, refl);
  refused = λ more e b. m.refused 64 b;
}

abbrev deep_stop : (bytes : List ℕ) (s : Span) → TooDeep bytes s → Stop bytes s
deep_stop bytes s d = record {
  before = d.before;
  line = d.line;
  rest = 10 ∷ d.more;
  stands = d.stands;
  begun = d.begun;
  end = inr (d.more, refl);
  refused = λ more e b. d.refused b;
}

no_feed : (more : List ℕ) → [] ≡ 10 ∷ more → ⊥
no_feed more e = absurd cc

abbrev early_stop : (bytes : List ℕ) (s : Span) → EndsEarly bytes s → Stop bytes s
early_stop bytes s x = record {
  before = x.before;
  line = x.line;
  rest = [];
  stands = x.stands;
  begun = x.begun;
  end = inl refl;
  refused = λ more e b. no_feed more e;
}

begins_front : (ls ms : List (List ℕ)) → Begins 64 (ls ++ ms) → Begins 64 ls
begins_front ls ms b = record { file = b.file; good = b.good; more = ms ++ b.more; is = b.is ∙ append_assoc ls ms b.more }

module _ (bytes : List ℕ) where
  -- no lines that begin a text go on beyond it
  not_beyond : (s : Span) (a : Stop bytes s) (ms : List (List ℕ)) (r : List ℕ) → Begins 64 ms → GoesOn a.before (a.line ++ a.rest) ms r → (ms ≡ a.before) × (a.line ++ a.rest ≡ r)
  not_beyond s a ms r begun ([], is, left) = (is ∙ append-nil a.before, left)
  not_beyond s a ms r begun (m ∷ more, is, left) = absurd (by a.end)
    where
      here : a.line ++ a.rest ≡ m ++ (10 ∷ (text more ++ r))
      here = left ∙ append_assoc m (10 ∷ text more) r

      free : feed_free m ≡ true
      free = (free_rest a.before (subst AreFree is (free_begun 64 ms begun))).0
        where
          free_rest : (ls : List (List ℕ)) → AreFree (ls ++ m ∷ more) → AreFree (m ∷ more)
          free_rest [] f = f
          free_rest (l ∷ ls) f = free_rest ls f.1

      by : IsEnd a.rest → ⊥
      by (inl e) = fed m (text more ++ r) (subst (λ l. feed_free l ≡ true) (sym (append-nil a.line) ∙ ap (λ x. a.line ++ x) (sym e) ∙ here) a.stands.free)
      by (inr (x, e)) =
          let one = one_line a.line m x (text more ++ r) a.stands.free free (ap (λ y. a.line ++ y) (sym e) ∙ here) in
          let longer : ms ≡ (a.before ++ a.line ∷ []) ++ more = is ∙ ap (λ k. a.before ++ (k ∷ more)) (sym one.0) ∙ sym (append_assoc a.before (a.line ∷ []) more) in
          a.refused x e (begins_front (a.before ++ a.line ∷ []) more (subst (Begins 64) longer begun))

  module _ (s t : Span) (a : Stop bytes s) (b : Stop bytes t) where
    record Same : Type 0 where
      pub before : a.before ≡ b.before
      pub left : a.line ++ a.rest ≡ b.line ++ b.rest

    one_place : Same
    one_place = by (divided a.before b.before (a.line ++ a.rest) (b.line ++ b.rest) (free_begun 64 a.before a.begun) (free_begun 64 b.before b.begun) (sym a.stands.is ∙ b.stands.is))
      where
        by : GoesOn a.before (a.line ++ a.rest) b.before (b.line ++ b.rest) ⊎ GoesOn b.before (b.line ++ b.rest) a.before (a.line ++ a.rest) → Same
        by (inl g) = let h = not_beyond s a b.before (b.line ++ b.rest) b.begun g in record { before = sym h.0; left = h.1 }
        by (inr g) = let h = not_beyond t b a.before (a.line ++ a.rest) a.begun g in record { before = h.0; left = sym h.1 }

    -- a line and what is behind it
    same_line : (l m r q : List ℕ) → feed_free l ≡ true → feed_free m ≡ true → IsEnd r → IsEnd q → l ++ r ≡ m ++ q → (l ≡ m) × (r ≡ q)
    same_line l m r q f g (inl d) (inl e) h = (sym (append-nil l) ∙ ap (λ x. l ++ x) (sym d) ∙ h ∙ ap (λ x. m ++ x) e ∙ append-nil m, d ∙ sym e)
    same_line l m r q f g (inl d) (inr (y, e)) h =
        absurd (fed m y (subst (λ x. feed_free x ≡ true) (sym (append-nil l) ∙ ap (λ x. l ++ x) (sym d) ∙ h ∙ ap (λ x. m ++ x) e) f))
    same_line l m r q f g (inr (x, d)) (inl e) h =
        absurd (fed l x (subst (λ z. feed_free z ≡ true) (sym (append-nil m) ∙ ap (λ z. m ++ z) (sym e) ∙ sym h ∙ ap (λ z. l ++ z) d) g))
    same_line l m r q f g (inr (x, d)) (inr (y, e)) h =
        let one = one_line l m x y f g (ap (λ z. l ++ z) (sym d) ∙ h ∙ ap (λ z. m ++ z) e) in
        (one.0, d ∙ ap (λ z. 10 ∷ z) one.1 ∙ sym e)

    same_parts : (a.line ≡ b.line) × (a.rest ≡ b.rest)
    same_parts = same_line a.line b.line a.rest b.rest a.stands.free b.stands.free a.end b.end one_place.left

    one_span : s ≡ t
    one_span =
        let start : s.start ≡ t.start = a.stands.start ∙ ap (λ ls. length (text ls)) one_place.before ∙ sym b.stands.start in
        let end : s.end ≡ t.end = a.stands.end ∙ ap (λ n. n + length a.line) start ∙ ap (λ l. t.start + length l) same_parts.0 ∙ sym b.stands.end in
        same_span start end
      where
        same_span : s.start ≡ t.start → s.end ≡ t.end → s ≡ t
        same_span p q = ap (λ n. span_of n s.end) p ∙ ap (span_of t.start) q

  never_none : (xs ys zs : List ℕ) → [] ≡ xs ++ (ys ++ (10 ∷ zs)) → ⊥
  never_none [] [] zs e = absurd cc
  never_none [] (y ∷ ys) zs e = absurd cc
  never_none (x ∷ xs) ys zs e = absurd cc

  -- a text of a file has no line that doesn't fit
  no_stop : (s : Span) (f : File) (a : Stop bytes s) → IsFile 64 f → spelling f ≡ bytes → (more : List ℕ) → a.rest ≡ 10 ∷ more → ⊥
  no_stop s f a good is more e = by (divided a.before (lines f) (a.line ++ a.rest) [] (free_begun 64 a.before a.begun) (free_file 64 f good) (sym a.stands.is ∙ sym is ∙ sym (append-nil (spelling f))))
    where
      left : a.line ++ a.rest ≡ a.line ++ (10 ∷ more)
      left = ap (λ x. a.line ++ x) e

      by : GoesOn a.before (a.line ++ a.rest) (lines f) [] ⊎ GoesOn (lines f) [] a.before (a.line ++ a.rest) → ⊥
      by (inl g) =
          let h = not_beyond s a (lines f) [] (record { file = f; good = good; more = []; is = sym (append-nil (lines f)) }) g in
          never_none [] a.line more (sym h.1 ∙ left)
      by (inr (rest, longer, none)) = never_none (text rest) a.line more (none ∙ ap (λ x. text rest ++ x) left)

  -- ---- one answer

  abbrev Bad : Span → Type 0
  Bad s = Misfits bytes s ⊎ EndsEarly bytes s

  bad_stop : (s : Span) → Bad s → Stop bytes s
  bad_stop s (inl m) = misfit_stop bytes s m
  bad_stop s (inr x) = early_stop bytes s x

  file_bad : (f : File) (s : Span) → IsFile 64 f → spelling f ≡ bytes → Bad s → ⊥
  file_bad f s good is (inl m) = no_stop s f (misfit_stop bytes s m) good is m.more refl
  file_bad f s good is (inr x) = x.refused 64 f good is

  file_deep : (f : File) (s : Span) → IsFile 64 f → spelling f ≡ bytes → TooDeep bytes s → ⊥
  file_deep f s good is d = no_stop s f (deep_stop bytes s d) good is d.more refl

  bad_deep : (s t : Span) → Bad s → TooDeep bytes t → ⊥
  bad_deep s t (inl m) d =
      let a = misfit_stop bytes s m in
      let b = deep_stop bytes t d in
      let before : d.before ≡ m.before = sym (one_place s t a b).before in
      let own : d.line ≡ m.line = sym (same_parts s t a b).0 in
      m.refused 65 (subst (Begins 65) (ap (λ ls. ls ++ d.line ∷ []) before ∙ ap (λ l. m.before ++ l ∷ []) own) d.deeper)
  bad_deep s t (inr x) d = no_feed d.more (same_parts s t (early_stop bytes s x) (deep_stop bytes t d)).1

  abbrev malformed_of : Span → Rule → Malformed
  malformed_of s r = record { span = s; rule = r }

  abbrev limit_of : Span → Quantity → Limit
  limit_of s q = record { span = s; quantity = q }

  one_malformed : (m n : Malformed) → m.rule ≡ n.rule → m.span ≡ n.span → m ≡ n
  one_malformed m n p q = ap (λ r. malformed_of m.span r) p ∙ ap (λ s. malformed_of s n.rule) q

  one_limit : (m n : Limit) → m.quantity ≡ n.quantity → m.span ≡ n.span → m ≡ n
  one_limit m n p q = ap (λ r. limit_of m.span r) p ∙ ap (λ s. limit_of s n.quantity) q

  pub certificates_once : IsOnce (CertificatesRead bytes)
  certificates_once (Ok f) (Ok g) p q = ap Ok (one_spelling 64 f g p.0 q.0 (p.1 ∙ sym q.1))
  certificates_once (Ok f) (Err (fault.Malformed m)) p q = absurd (file_bad f m.span p.0 p.1 q.1)
  certificates_once (Ok f) (Err (fault.Limit l)) p q = absurd (file_deep f l.span p.0 p.1 q.1)
  certificates_once (Ok f) (Err fault.Memory) p q = absurd q
  certificates_once (Err (fault.Malformed m)) (Ok g) p q = absurd (file_bad g m.span q.0 q.1 p.1)
  certificates_once (Err (fault.Malformed m)) (Err (fault.Malformed n)) p q =
      ap (λ x. Err (fault.Malformed x)) (one_malformed m n (p.0 ∙ sym q.0) (one_span m.span n.span (bad_stop m.span p.1) (bad_stop n.span q.1)))
  certificates_once (Err (fault.Malformed m)) (Err (fault.Limit l)) p q = absurd (bad_deep m.span l.span p.1 q.1)
  certificates_once (Err (fault.Malformed m)) (Err fault.Memory) p q = absurd q
  certificates_once (Err (fault.Limit l)) (Ok g) p q = absurd (file_deep g l.span q.0 q.1 p.1)
  certificates_once (Err (fault.Limit l)) (Err (fault.Malformed m)) p q = absurd (bad_deep m.span l.span q.1 p.1)
  certificates_once (Err (fault.Limit l)) (Err (fault.Limit k)) p q =
      ap (λ x. Err (fault.Limit x)) (one_limit l k (p.0 ∙ sym q.0) (one_span l.span k.span (deep_stop bytes l.span p.1) (deep_stop bytes k.span q.1)))
  certificates_once (Err (fault.Limit l)) (Err fault.Memory) p q = absurd q
  certificates_once (Err fault.Memory) b p q = absurd p
