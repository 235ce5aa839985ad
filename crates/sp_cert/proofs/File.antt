-- What reading a text answers.
use Rattle.std.proofs.Common.{◌≡◌, ℕ, suc, ◌+◌, ◌≤◌, List, [], ◌∷◌, ◌++◌, length, Option, Some, None, Result, Ok, Err, refl, sym, ap, ◌∙◌, subst, arith, append_assoc, append-nil, ◌⊎◌, inl, inr}
use Rattle.sp_text.specs.declared.fault.Span.{Span}
use Rattle.sp_text.specs.declared.fault.Malformed.{Malformed}
use Rattle.sp_text.specs.declared.fault.TextFault.{TextFault}
use Rattle.sp_text.specs.declared.fault.TextFault.TheVariants as fault
use Rattle.sp_text.specs.declared.fault.Rule.TheVariants.{BadLine}
use Rattle.sp_text.specs.declared.fault.Quantity.TheVariants.{CertificateDepth}
use Rattle.sp_cert.specs.declared.cert.CertFile.{CertFile}
use Rattle.sp_cert.specs.Tree.{Tree, File, file_of}
use Rattle.sp_cert.specs.Spelling.{first_line, formula_lines, lines, text, spelling}
use Rattle.sp_cert.specs.Within.{AreTrees, IsFile, IsFormat}
use Rattle.sp_cert.specs.Answers.{Begins, Stands, Misfits, EndsEarly, TooDeep, Answers}
use Rattle.sp_cert.specs.Input.{Input, Outcome, Reader, and_then, line, line_span, behind, one, bad_line, too_deep, Reads}
use Rattle.sp_cert.specs.Fields.{format_of}
use Rattle.sp_cert.specs.Reader.{file, file_with}
use Rattle.std.specs.Prelude.{MatchResult}
use Rattle.sp_cert.proofs.Texts.{text_append}
use Rattle.sp_cert.proofs.LineLaws.{format_reads, format_stands, small_format}
use Rattle.sp_cert.proofs.Inputs.{free_first, from, past, from_append, past_append, takes_one, told_two, both_read, line_told, ok_value, line_free, line_all, line_before}
use Rattle.sp_cert.proofs.Stuck.{Kind, bad, deep, fault_of, Stuck, stuck_first, stuck_second, stuck_one, Refusal, refusal}
use Rattle.sp_cert.proofs.Forms as forms
use Rattle.sp_cert.proofs.Forms.{map_refused}
use Rattle.sp_cert.proofs.Whole.{whole, whole_takes, whole_told, whole_stuck}
use Rattle.sp_cert.proofs.Grows.{plus, plus_both, still_bad, wide}

abbrev at_place : List ℕ → ℕ → Input
at_place r n = record { rest = r; at = n }

abbrev start : List ℕ → Input
start bytes = record { rest = bytes; at = 0 }

abbrev then_formulas : ℕ → ℕ → Reader File
then_formulas b v j = and_then (whole v b 1 j) (λ ts x. Ok (file_with v ts, x))

abbrev ok_file : ℕ → List Tree → Reader File
ok_file v ts x = Ok (file_with v ts, x)

abbrev ok : File → Input → Outcome File
ok f i = Ok (f, i)

pub file_takes : (b : ℕ) (f : File) → IsFile b f → file b (start (spelling f)) ≡ Ok (f, at_place [] (0 + length (text (lines f))))
unfolding file
file_takes b f g =
    let l = first_line f.format in
    let m = formula_lines 1 f.trees in
    let at1 = 0 + length (text (l ∷ [])) in
    ap (λ r. file b (at_place r 0)) (sym (append-nil (spelling f)))
    ∙ ap (file b) (from_append (l ∷ []) m [] 0)
    ∙ ap (λ o. and_then o (then_formulas b)) (takes_one format_of l f.format (free_first f.format (small_format f.format g.format)) (format_reads f.format g.format) (text m ++ []) 0)
    ∙ ap (λ o. and_then o (ok_file f.format)) (whole_takes f.format b 1 f.trees g.trees at1)
    ∙ ap (ok f) (sym (past_append (l ∷ []) m [] 0))

pub file_told : (b : ℕ) (bytes : List ℕ) (f : File) (j : Input) → file b (start bytes) ≡ Ok (f, j) → IsFile b f × (spelling f ≡ bytes)
unfolding file
file_told b bytes f j e =
    let u = both_read (one format_of (start bytes)) (then_formulas b) f j e in
    let l = line_told format_of (start bytes) u.j u.a u.is in
    let s = format_stands l.line u.a l.is in
    let y = both_read (whole u.a b 1 u.j) (ok_file u.a) f j u.then in
    let z = ok_value (file_with u.a y.a) f y.j j y.then in
    let h = whole_told u.a b (length u.j.rest) 1 u.j y.j y.a (omega arith) y.is in
    let t = told_two (start bytes) u.j y.j (l.line ∷ []) (formula_lines 1 y.a) l.told h.told in
    let spelled : spelling (file_with u.a y.a) ≡ bytes =
    sym (ap (λ (i : Input). i.rest) t.is ∙ ap (λ r. text (l.line ∷ formula_lines 1 y.a) ++ r) (nothing y.j.rest h.ends) ∙ append-nil (text (l.line ∷ formula_lines 1 y.a))
    ∙ ap (λ x. text (x ∷ formula_lines 1 y.a)) s.0) in
    subst (λ g. IsFile b g × (spelling g ≡ bytes)) z.0 (record { format = s.1; trees = h.good }, spelled)
  where
    nothing : (r : List ℕ) → length r ≤ 0 → r ≡ []
    nothing [] h = refl
    nothing (x ∷ r) h = absurd (omega arith)

abbrev FileStuck : ℕ → Input → TextFault → Type 0
FileStuck b i e = Stuck (file b) (Begins b) (Begins (suc b)) i e

nothing_more : File
nothing_more = record { format = 1; trees = [] }

begins_none : (b : ℕ) → Begins b []
unfolding nothing_more
begins_none b = record { file = nothing_more; good = record { format = inl refl; trees = tt }; more = lines nothing_more; is = refl }

begins_more : (v c : ℕ) (l : List ℕ) → l ≡ first_line v → IsFormat v → (ls : List (List ℕ)) → forms.Begins (formula_lines 1) (AreTrees v c 1) ls → Begins c ((l ∷ []) ++ ls)
begins_more v c l e g ls b = record {
  file = file_with v b.value;
  good = record { format = g; trees = b.good };
  more = b.more;
  is = ap (λ x. x ∷ formula_lines 1 b.value) (sym e) ∙ ap (λ t. l ∷ t) b.is;
}

file_stuck_by : (b : ℕ) (i : Input) (e : TextFault) → Refusal (one format_of i) (then_formulas b) e → FileStuck b i e
unfolding file
file_stuck_by b i e (inl x) = stuck_first (one format_of) (then_formulas b) i e (λ ls b. b) (λ ls b. b) (stuck_one format_of i e (begins_none b) x)
file_stuck_by b i e (inr x) =
    let l = line_told format_of i x.j x.a x.is in
    let s = format_stands l.line x.a l.is in
    stuck_second (one format_of) (then_formulas b) i x.j e (l.line ∷ []) x.a (takes_one format_of l.line x.a l.free l.is) l.told
    (begins_more x.a b l.line s.0 s.1) (begins_more x.a (suc b) l.line s.0 s.1)
    (stuck_first (whole x.a b 1) (ok_file x.a) x.j e (λ ls b. b) (λ ls b. b)
    (whole_stuck x.a b (length x.j.rest) 1 x.j e (omega arith) (map_refused (whole x.a b 1 x.j) (file_with x.a) e x.refused)))

pub file_stuck : (b : ℕ) (i : Input) (e : TextFault) → file b i ≡ Err e → FileStuck b i e
unfolding file
file_stuck b i e h = file_stuck_by b i e (refusal (one format_of i) (then_formulas b) e h)

spelled : (f : File) (before more : List (List ℕ)) (l : List ℕ) → lines f ≡ (before ++ l ∷ []) ++ more → spelling f ≡ text before ++ (l ++ (10 ∷ text more))
spelled f before more l e = ap text (e ∙ append_assoc before (l ∷ []) more) ∙ text_append before (l ∷ more)

abbrev err : TextFault → Outcome File
err e = Err e

abbrev bad_at : Malformed → TextFault
bad_at m = fault.Malformed m

wide_file : (c b : ℕ) (f : File) → IsFile b f → IsFile (plus c b) f
wide_file c b f g = record { format = g.format; trees = wide f.format c b 1 f.trees g.trees }

-- at no depth is read what is refused for a line that doesn't fit
never : (depth : ℕ) (f : File) (bytes : List ℕ) (m : Malformed) → IsFile depth f → spelling f ≡ bytes → file 64 (start bytes) ≡ err (bad_at m) → ⊥
never depth f bytes m g e h =
    let n = plus depth 64 in
    let taken = file_takes n f (subst (λ k. IsFile k f) (plus_both 64 depth) (wide_file 64 depth f g)) in
    let refused = still_bad depth 64 (start bytes) m h in
    apart _ _ (sym taken ∙ ap (λ r. file n (start r)) e ∙ refused)
  where
    apart : (p : File × Input) (e : TextFault) → (let o : Outcome File = Ok p in o) ≡ err e → ⊥
    apart p e h = absurd (cc)

place_of : List (List ℕ) → List ℕ → Span
place_of before r = record { start = 0 + length (text before); end = 0 + length (text before) + length (line r) }

abbrev misfit : List (List ℕ) → List ℕ → Malformed
misfit before r = record { span = place_of before r; rule = BadLine }

bad_is : (before : List (List ℕ)) (r : List ℕ) → bad_line (past before r 0) ≡ bad_at (misfit before r)
unfolding bad_line line_span place_of
bad_is before r = refl

stands_at : (bytes : List ℕ) (before : List (List ℕ)) (r rest : List ℕ) → bytes ≡ text before ++ r → r ≡ line r ++ rest → Stands bytes (place_of before r) before (line r) rest
unfolding place_of
stands_at bytes before r rest e f = record { is = e ∙ ap (λ x. text before ++ x) f; free = line_free r; start = zero_first (length (text before)); end = refl }
  where
    zero_first : (n : ℕ) → 0 + n ≡ n
    zero_first n = omega arith

rest_is : (bytes : List ℕ) (before : List (List ℕ)) (r : List ℕ) → start bytes ≡ from before r 0 → bytes ≡ text before ++ r
rest_is bytes before r e = ap (λ (i : Input). i.rest) e

abbrev Cause : List ℕ → List (List ℕ) → List ℕ → Type 0
Cause bytes before r = Misfits bytes (place_of before r) ⊎ EndsEarly bytes (place_of before r)

module _ (bytes : List ℕ) (e : TextFault) (h : file 64 (start bytes) ≡ Err e) (s : FileStuck 64 (start bytes) e) where
  bad_cause : e ≡ bad_at (misfit s.before s.rest) → s.kind ≡ bad → (o : Option (List ℕ)) → behind s.rest ≡ o → Cause bytes s.before s.rest
  bad_cause is k (Some q) w = inl (record {
    before = s.before;
    line = line s.rest;
    more = q;
    stands = stands_at bytes s.before s.rest (10 ∷ q) (rest_is bytes s.before s.rest s.is) (line_before s.rest q w);
    begun = s.begun;
    refused = λ depth b.
        never depth b.file (text s.before ++ (line s.rest ++ (10 ∷ text b.more))) (misfit s.before (line s.rest ++ (10 ∷ text b.more))) b.good (spelled b.file s.before b.more (line s.rest) b.is)
        (s.local q (text b.more) 0 w ∙ ap (λ k. err (fault_of k (past s.before (line s.rest ++ (10 ∷ text b.more)) 0))) k ∙ ap err (bad_is s.before (line s.rest ++ (10 ∷ text b.more))));
  })
  bad_cause is k None w = inr (record {
    before = s.before;
    line = line s.rest;
    stands = stands_at bytes s.before s.rest [] (rest_is bytes s.before s.rest s.is) (sym (line_all s.rest w) ∙ sym (append-nil (line s.rest)));
    begun = s.begun;
    refused = λ depth f g x. never depth f bytes (misfit s.before s.rest) g x (h ∙ ap err is);
  })

  too_deep_at : s.kind ≡ deep → TooDeep bytes (place_of s.before s.rest)
  too_deep_at k =
      let o = s.over k in
      record {
        before = s.before;
        line = line s.rest;
        more = o.q;
        stands = stands_at bytes s.before s.rest (10 ∷ o.q) (rest_is bytes s.before s.rest s.is) (line_before s.rest o.q o.whole);
        begun = s.begun;
        deeper = o.begun;
        refused = λ b.
            let r = line s.rest ++ (10 ∷ text b.more) in
            apart _ _ (sym (file_takes 64 b.file b.good) ∙ ap (λ x. file 64 (start x)) (spelled b.file s.before b.more (line s.rest) b.is) ∙ s.local o.q (text b.more) 0 o.whole);
      }
    where
      apart : (p : File × Input) (e : TextFault) → (let o : Outcome File = Ok p in o) ≡ err e → ⊥
      apart p e h = absurd (cc)

deep_is : (before : List (List ℕ)) (r : List ℕ) → too_deep (past before r 0) ≡ fault.Limit (record { span = place_of before r; quantity = CertificateDepth })
unfolding line_span place_of
deep_is before r = refl

by_kind : (bytes : List ℕ) (e : TextFault) → file 64 (start bytes) ≡ Err e → (s : FileStuck 64 (start bytes) e) → (k : Kind) → s.kind ≡ k → Answers bytes (Err e)
by_kind bytes e h s bad k =
    let is : e ≡ bad_at (misfit s.before s.rest) = s.fault ∙ ap (λ k. fault_of k (past s.before s.rest 0)) k ∙ bad_is s.before s.rest in
    subst (λ x. Answers bytes (Err x)) (sym is) (refl, bad_cause bytes e h s is k (behind s.rest) refl)
by_kind bytes e h s deep k =
    let is = s.fault ∙ ap (λ k. fault_of k (past s.before s.rest 0)) k ∙ deep_is s.before s.rest in
    subst (λ x. Answers bytes (Err x)) (sym is) (refl, too_deep_at bytes e h s k)

pub refused_answers : (bytes : List ℕ) (e : TextFault) → file 64 (start bytes) ≡ Err e → Answers bytes (Err e)
refused_answers bytes e h = let s = file_stuck 64 (start bytes) e h in by_kind bytes e h s s.kind refl

-- what is answered, from what the reader gives
pub answers : (bytes : List ℕ) (r : Result CertFile TextFault) (new : Input) → Reads file_of (file 64 (start bytes)) r new → Answers bytes r
answers bytes (Ok f) new h = file_told 64 bytes (file_of f) new h
answers bytes (Err (fault.Malformed m)) new h = refused_answers bytes (fault.Malformed m) (h (λ x. absurd (cc)))
answers bytes (Err (fault.Limit l)) new h = refused_answers bytes (fault.Limit l) (h (λ x. absurd (cc)))
answers bytes (Err fault.Memory) new h = tt

-- where a text is a spelling, nothing else is answered but want of memory
pub only : (bytes : List ℕ) (r : Result CertFile TextFault) (new : Input) → Reads file_of (file 64 (start bytes)) r new
    → (f : File) → IsFile 64 f → spelling f ≡ bytes → MatchResult r (λ v. file_of v ≡ f) (λ e. e ≡ fault.Memory)
only bytes (Ok v) new h f g e =
    let i = at_place [] (0 + length (text (lines f))) in
    (ok_value (file_of v) f new i (sym h ∙ ap (λ b. file 64 (start b)) (sym e) ∙ file_takes 64 f g)).0
only bytes (Err (fault.Malformed m)) new h f g e = absurd (never 64 f bytes m g e (h (λ x. absurd (cc))))
only bytes (Err (fault.Limit l)) new h f g e =
    let c : ok f (at_place [] (0 + length (text (lines f)))) ≡ err (fault.Limit l) = sym (file_takes 64 f g) ∙ ap (λ b. file 64 (start b)) e ∙ h (λ x. absurd (cc)) in absurd (cc)
only bytes (Err fault.Memory) new h f g e = refl

pub one_spelling : (depth : ℕ) (f g : File) → IsFile depth f → IsFile depth g → spelling f ≡ spelling g → f ≡ g
one_spelling depth f g h k e =
    (ok_value f g _ _ (sym (file_takes depth f h) ∙ ap (λ b. file depth (start b)) e ∙ file_takes depth g k)).0
