-- Each line's text, read back and told from what is read.
use Rattle.std.proofs.Common.{◌≡◌, ℕ, ◌≤◌, Bool, true, false, cond, eqb, List, [], ◌∷◌, ◌++◌, Option, Some, None, refl, sym, ap, ◌∙◌, subst, arith, append_assoc, append-nil, ◌||◌, inl, inr}
use Rattle.std.specs.Prelude.{decimal, codes, option_and_then}
use Rattle.std.proofs.lemmas.Bool.{eqb-true, eq-eqb}
use Rattle.std.proofs.lemmas.Bool.Decides.{nat_tests}
use Rattle.sp_rules.specs.declared.fact.Fact.{Fact}
use Rattle.sp_rules.specs.declared.fact.Fact.TheVariants as fact
use Rattle.sp_rules.specs.declared.fact.Step.{Step}
use Rattle.sp_cert.specs.declared.line.NodeLine.{NodeLine}
use Rattle.sp_cert.specs.declared.line.NodeLine.TheVariants as node
use Rattle.sp_cert.specs.Spelling.{fact_words, step_line, split_line, leaf_line, steps_line, formula_line, first_line}
use Rattle.sp_cert.specs.Fields.{behind_mark, begins_digit, field, last_field, ended, pair, fact_or, fact_of, step_of, leaf_or, steps_in, node_or, node_of, formula_of, is_formula, is_number, format_of, in_format, rule_in_range}
use Rattle.sp_cert.specs.Within.{IsFact, IsFormat, IsStep}
use Rattle.sp_cert.specs.Reader.{formula_is}
use Rattle.sp_cert.proofs.Numbers.{most, chosen, field_reads, field_stands}

pub last_reads : (m : List ℕ) (n : ℕ) → n ≤ most → last_field m (m ++ decimal n) ≡ Some n
unfolding last_field
last_reads m n small =
    ap (λ l. option_and_then (λ f. ended f.0 f.1) (field m (m ++ l))) (sym (append-nil (decimal n)))
    ∙ ap (λ o. option_and_then (λ (f : ℕ × List ℕ). ended f.0 f.1) o) (field_reads m n [] small refl)

ended_told : {A : Type 0} (v w : A) (l : List ℕ) → ended v l ≡ Some w → (v ≡ w) × (l ≡ [])
ended_told v w [] e = (cc, refl)
ended_told v w (b ∷ l) e = absurd (cc)

pub last_stands : (m l : List ℕ) (n : ℕ) → last_field m l ≡ Some n → (l ≡ m ++ decimal n) × (n ≤ most)
unfolding last_field
last_stands m l n e =
    let c = chosen (field m l) (λ f. ended f.0 f.1) n e in
    let k = field_stands m l c.a.0 c.a.1 c.is in
    let d = ended_told c.a.0 n c.a.1 c.then in
    (k.0 ∙ ap (λ r. m ++ (decimal c.a.0 ++ r)) d.1 ∙ ap (λ r. m ++ r) (append-nil (decimal c.a.0)) ∙ ap (λ x. m ++ decimal x) d.0, subst (λ x. x ≤ most) d.0 k.1)

-- two numbers

abbrev Triple : Type 0
Triple = ℕ × ℕ × List ℕ

abbrev triple : ℕ → ℕ → List ℕ → Option Triple
triple i j r = Some (i, j, r)

abbrev zeroth : Option Triple → ℕ
zeroth (Some t) = t.0
zeroth None = 0

abbrev first : Option Triple → ℕ
first (Some t) = t.1
first None = 0

abbrev second : Option Triple → List ℕ
second (Some t) = t.2
second None = []

abbrev pair_words : List ℕ → ℕ → ℕ → List ℕ → List ℕ
pair_words m i j r = m ++ (decimal i ++ (codes " " ++ (decimal j ++ r)))

abbrev pair_end : ℕ → ℕ × List ℕ → Option Triple
pair_end i j = Some (i, j.0, j.1)

abbrev pair_rest : ℕ × List ℕ → Option Triple
pair_rest i = option_and_then (pair_end i.0) (field (codes " ") i.1)

pair_reads : (m : List ℕ) (i j : ℕ) (r : List ℕ) → i ≤ most → j ≤ most → begins_digit r ≡ false → pair m (pair_words m i j r) ≡ triple i j r
unfolding pair
pair_reads m i j r low high e =
    ap (λ o. option_and_then pair_rest o) (field_reads m i (codes " " ++ (decimal j ++ r)) low refl) ∙ ap (λ o. option_and_then (pair_end i) o) (field_reads (codes " ") j r high e)

pub record Pair (m l : List ℕ) (i j : ℕ) (r : List ℕ) : Type 0 where
  pub is : l ≡ pair_words m i j r
  pub low : i ≤ most
  pub high : j ≤ most

pair_stands : (m l : List ℕ) (i j : ℕ) (r : List ℕ) → pair m l ≡ triple i j r → Pair m l i j r
unfolding pair
pair_stands m l i j r e =
    let c = chosen (field m l) pair_rest (i, j, r) e in
    let d = chosen (field (codes " ") c.a.1) (pair_end c.a.0) (i, j, r) c.then in
    let k = field_stands m l c.a.0 c.a.1 c.is in
    let h = field_stands (codes " ") c.a.1 d.a.0 d.a.1 d.is in
    let x : c.a.0 ≡ i = ap zeroth d.then in
    let y : d.a.0 ≡ j = ap first d.then in
    let z : d.a.1 ≡ r = ap second d.then in
    record {
      is = k.0 ∙ ap (λ t. m ++ (decimal c.a.0 ++ t)) h.0 ∙ ap (λ t. pair_words m t d.a.0 d.a.1) x ∙ ap (λ t. pair_words m i t d.a.1) y ∙ ap (pair_words m i j) z;
      low = subst (λ t. t ≤ most) x k.1;
      high = subst (λ t. t ≤ most) y h.1;
    }

-- facts

abbrev Fact_read : Type 0
Fact_read = Option (Fact × List ℕ)

abbrev with : Fact → List ℕ → Fact_read
with f r = Some (f, r)

abbrev fact_in : Fact → Fact_read → Fact
fact_in d (Some p) = p.0
fact_in d None = d

abbrev left_in : Fact_read → List ℕ
left_in (Some p) = p.1
left_in None = []

words_apart : (m : List ℕ) (i j : ℕ) (r : List ℕ) → (m ++ (decimal i ++ (codes " " ++ decimal j))) ++ r ≡ pair_words m i j r
words_apart m i j r =
    append_assoc m (decimal i ++ (codes " " ++ decimal j)) r
    ∙ ap (λ t. m ++ t) (append_assoc (decimal i) (codes " " ++ decimal j) r)

fact_reads : (f : Fact) (r : List ℕ) → IsFact f → begins_digit r ≡ false → fact_of (fact_words f ++ r) ≡ with f r
unfolding fact_of pair field behind_mark
fact_reads (fact.Eq i j) r h e =
    ap fact_of (words_apart (codes "EQ ") i j r) ∙ ap (λ o. fact_or o (pair_words (codes "EQ ") i j r)) (pair_reads (codes "EQ ") i j r h.0 h.1 e)
fact_reads (fact.Le i j) r h e =
    ap fact_of (words_apart (codes "LE ") i j r) ∙ ap (λ o. option_and_then le_end o) (pair_reads (codes "LE ") i j r h.0 h.1 e)
  where
    le_end : Triple → Fact_read
    le_end p = Some (fact.Le p.0 p.1, p.2)

fact_told : (l : List ℕ) (f : Fact) (r : List ℕ) (o : Option Triple) → pair (codes "EQ ") l ≡ o → fact_or o l ≡ with f r → (l ≡ fact_words f ++ r) × IsFact f
fact_told l f r (Some p) h e =
    let k = pair_stands (codes "EQ ") l p.0 p.1 p.2 h in
    let x : fact.Eq p.0 p.1 ≡ f = ap (fact_in f) e in
    let y : p.2 ≡ r = ap left_in e in
    subst (λ g. (l ≡ fact_words g ++ r) × IsFact g) x (k.is ∙ sym (words_apart (codes "EQ ") p.0 p.1 p.2) ∙ ap (λ t. fact_words (fact.Eq p.0 p.1) ++ t) y, (k.low, k.high))
fact_told l f r None h e =
    let c = chosen (pair (codes "LE ") l) (λ p. Some (fact.Le p.0 p.1, p.2)) (f, r) e in
    let k = pair_stands (codes "LE ") l c.a.0 c.a.1 c.a.2 c.is in
    let x : fact.Le c.a.0 c.a.1 ≡ f = ap (fact_in f) c.then in
    let y : c.a.2 ≡ r = ap left_in c.then in
    subst (λ g. (l ≡ fact_words g ++ r) × IsFact g) x (k.is ∙ sym (words_apart (codes "LE ") c.a.0 c.a.1 c.a.2) ∙ ap (λ t. fact_words (fact.Le c.a.0 c.a.1) ++ t) y, (k.low, k.high))

fact_stands : (l : List ℕ) (f : Fact) (r : List ℕ) → fact_of l ≡ with f r → (l ≡ fact_words f ++ r) × IsFact f
unfolding fact_of
fact_stands l f r e = fact_told l f r (pair (codes "EQ ") l) refl e

-- nodes

abbrev pub node_line : NodeLine → List ℕ
node_line (node.Split a) = split_line a
node_line (node.Leaf k) = leaf_line k
node_line (node.Steps k) = steps_line k

pub record InTwo (v k : ℕ) : Type 0 where
  pub small : k ≤ most
  pub two : v ≡ 2

abbrev pub IsNode : ℕ → NodeLine → Type 0
IsNode v (node.Split a) = a ≤ most
IsNode v (node.Leaf k) = k ≤ most
IsNode v (node.Steps k) = InTwo v k

abbrev split_node : ℕ → NodeLine
split_node = node.Split

abbrev leaf_node : ℕ → NodeLine
leaf_node = node.Leaf

two_only : (v k : ℕ) → v ≡ 2 → steps_in v k ≡ Some (node.Steps k)
two_only v k e = ap (λ b. cond b (let o : Option NodeLine = Some (node.Steps k) in o) None) (eq-eqb v 2 e)

pub node_reads : (v : ℕ) (x : NodeLine) → IsNode v x → node_of v (node_line x) ≡ Some x
unfolding node_of split_line leaf_line steps_line last_field field behind_mark
node_reads v (node.Split a) h = ap (λ o. node_or v o (codes "SPLIT " ++ decimal a)) (last_reads (codes "SPLIT ") a h)
node_reads v (node.Leaf k) h = ap (λ o. leaf_or v o (codes "LEAF " ++ decimal k)) (last_reads (codes "LEAF ") k h)
node_reads v (node.Steps k) h = ap (λ o. option_and_then (steps_in v) o) (last_reads (codes "STEPS ") k h.small) ∙ two_only v k h.two

some_node : (x y : NodeLine) → Some x ≡ Some y → x ≡ y
some_node x y e = cc

steps_told : (v k : ℕ) (x : NodeLine) (t : Bool) → eqb v 2 ≡ t → cond t (let o : Option NodeLine = Some (node.Steps k) in o) None ≡ Some x → (v ≡ 2) × (node.Steps k ≡ x)
steps_told v k x true h e = (eqb-true v 2 h, some_node (node.Steps k) x e)
steps_told v k x false h e = absurd (cc)

leaf_told : (v : ℕ) (l : List ℕ) (x : NodeLine) (o : Option ℕ) → last_field (codes "LEAF ") l ≡ o → leaf_or v o l ≡ Some x → (l ≡ node_line x) × IsNode v x
unfolding leaf_line steps_line
leaf_told v l x (Some k) h e = subst (λ y. (l ≡ node_line y) × IsNode v y) (some_node (node.Leaf k) x e) (last_stands (codes "LEAF ") l k h)
leaf_told v l x None h e =
    let c = chosen (last_field (codes "STEPS ") l) (steps_in v) x e in
    let s = steps_told v c.a x (eqb v 2) refl c.then in
    let k = last_stands (codes "STEPS ") l c.a c.is in
    subst (λ y. (l ≡ node_line y) × IsNode v y) s.1 (k.0, record { small = k.1; two = s.0 })

node_told : (v : ℕ) (l : List ℕ) (x : NodeLine) (o : Option ℕ) → last_field (codes "SPLIT ") l ≡ o → node_or v o l ≡ Some x → (l ≡ node_line x) × IsNode v x
unfolding split_line leaf_line
node_told v l x (Some a) h e = let k = last_stands (codes "SPLIT ") l a h in subst (λ y. (l ≡ node_line y) × IsNode v y) (some_node (node.Split a) x e) k
node_told v l x None h e = leaf_told v l x (last_field (codes "LEAF ") l) refl e

pub node_stands : (v : ℕ) (l : List ℕ) (x : NodeLine) → node_of v l ≡ Some x → (l ≡ node_line x) × IsNode v x
unfolding node_of
node_stands v l x e = node_told v l x (last_field (codes "SPLIT ") l) refl e

-- a formula's line, and the first line

pub formula_reads : (n : ℕ) → n ≤ most → formula_is n (formula_line n) ≡ Some tt
unfolding formula_line is_formula formula_of
formula_reads n h = ap (λ o. if_so (is_number n o)) (last_reads (codes "FORMULA ") n h) ∙ ap if_so (eq-eqb n n refl)
  where
    if_so : Bool → Option (Unit {0})
    if_so b = cond b (Some tt) None

number_is : (n : ℕ) (o : Option ℕ) (u : Unit {0}) → cond (is_number n o) (Some tt) None ≡ Some u → o ≡ Some n
number_is n (Some m) u e = by (eqb n m) refl e
  where
    by : (t : Bool) → eqb n m ≡ t → cond t (Some tt) None ≡ Some u → Some m ≡ Some n
    by true t e = ap some_number (sym (eqb-true n m t))
      where
        some_number : ℕ → Option ℕ
        some_number k = Some k
    by false t e = absurd (cc)
number_is n None u e = absurd (cc)

pub formula_stands : (n : ℕ) (l : List ℕ) (u : Unit {0}) → formula_is n l ≡ Some u → (l ≡ formula_line n) × (n ≤ most)
unfolding formula_line is_formula formula_of
formula_stands n l u e = last_stands (codes "FORMULA ") l n (number_is n (last_field (codes "FORMULA ") l) u e)

pub small_format : (v : ℕ) → IsFormat v → v ≤ most
small_format v (inl e) = omega (arith, e)
small_format v (inr e) = omega (arith, e)

is_in_format : (v : ℕ) → IsFormat v → in_format v ≡ Some v
is_in_format v (inl e) = subst (λ w. in_format w ≡ Some w) (sym e) refl
is_in_format v (inr e) = subst (λ w. in_format w ≡ Some w) (sym e) refl

pub format_reads : (v : ℕ) → IsFormat v → format_of (first_line v) ≡ Some v
unfolding first_line format_of
format_reads v h = ap (λ o. option_and_then in_format o) (last_reads (codes "CERT ") v (small_format v h)) ∙ is_in_format v h

some_same : (a b : ℕ) → Some a ≡ Some b → a ≡ b
some_same a b e = cc

format_told : (w v : ℕ) (s t : Bool) → eqb w 1 ≡ s → eqb w 2 ≡ t → cond (s || t) (Some w) None ≡ Some v → (w ≡ v) × IsFormat v
format_told w v true t h g e = let same = some_same w v e in (same, inl (sym same ∙ eqb-true w 1 h))
format_told w v false true h g e = let same = some_same w v e in (same, inr (sym same ∙ eqb-true w 2 g))
format_told w v false false h g e = absurd (cc)

pub format_stands : (l : List ℕ) (v : ℕ) → format_of l ≡ Some v → (l ≡ first_line v) × IsFormat v
unfolding first_line format_of
format_stands l v e =
    let c = chosen (last_field (codes "CERT ") l) in_format v e in
    let k = format_told c.a v (eqb c.a 1) (eqb c.a 2) refl refl c.then in
    ((last_stands (codes "CERT ") l c.a c.is).0 ∙ ap (λ x. codes "CERT " ++ decimal x) k.0, k.1)

-- steps

rule_from : (r : ℕ) → rule_in_range r ≡ true → (1 ≤ r) × (r ≤ 23)
rule_from r e = (grind (arith, nat_tests), grind (arith, nat_tests))

rule_to : (r : ℕ) → 1 ≤ r → r ≤ 23 → rule_in_range r ≡ true
rule_to r low high = grind (arith, nat_tests)

abbrev step_with : Fact → ℕ → ℕ → ℕ → Step
step_with f r p q = record { fact = f; rule = r; p = p; q = q }

abbrev made : Fact → ℕ → ℕ → ℕ → Option Step
made f r p q = cond (rule_in_range r) (Some (step_with f r p q)) None

abbrev behind_p : Fact → ℕ → ℕ × List ℕ → Option Step
behind_p f r p = option_and_then (made f r p.0) (last_field (codes " ") p.1)

abbrev behind_rule : Fact → ℕ × List ℕ → Option Step
behind_rule f r = option_and_then (behind_p f r.0) (field (codes " ") r.1)

abbrev behind_fact : Fact × List ℕ → Option Step
behind_fact f = option_and_then (behind_rule f.0) (field (codes " K") f.1)

abbrev some_step : Step → Option Step
some_step s = Some s

pub step_reads : (s : Step) → IsStep s → step_of (step_line s) ≡ Some s
unfolding step_of step_line
step_reads s h =
    let l3 = codes " " ++ decimal s.q in
    let l2 = codes " " ++ (decimal s.p ++ l3) in
    let l1 = codes " K" ++ (decimal s.rule ++ l2) in
    ap (λ o. option_and_then behind_fact o) (fact_reads s.fact l1 h.fact refl)
    ∙ ap (λ o. option_and_then (behind_rule s.fact) o) (field_reads (codes " K") s.rule l2 (omega (arith, h.rule.1)) refl)
    ∙ ap (λ o. option_and_then (behind_p s.fact s.rule) o) (field_reads (codes " ") s.p l3 h.p refl)
    ∙ ap (λ o. option_and_then (made s.fact s.rule s.p) o) (last_reads (codes " ") s.q h.q)
    ∙ ap (λ b. cond b (some_step s) None) (rule_to s.rule h.rule.0 h.rule.1)

made_told : (f : Fact) (r p q : ℕ) (s : Step) (t : Bool) → rule_in_range r ≡ t → cond t (some_step (step_with f r p q)) None ≡ Some s → (rule_in_range r ≡ true) × (step_with f r p q ≡ s)
made_told f r p q s true t e = (t, cc)
made_told f r p q s false t e = absurd (cc)

pub step_stands : (l : List ℕ) (s : Step) → step_of l ≡ Some s → (l ≡ step_line s) × IsStep s
unfolding step_of step_line
step_stands l s e =
    let f = chosen (fact_of l) behind_fact s e in
    let r = chosen (field (codes " K") f.a.1) (behind_rule f.a.0) s f.then in
    let p = chosen (field (codes " ") r.a.1) (behind_p f.a.0 r.a.0) s r.then in
    let q = chosen (last_field (codes " ") p.a.1) (made f.a.0 r.a.0 p.a.0) s p.then in
    let m = made_told f.a.0 r.a.0 p.a.0 q.a s (rule_in_range r.a.0) refl q.then in
    let w = fact_stands l f.a.0 f.a.1 f.is in
    let x = field_stands (codes " K") f.a.1 r.a.0 r.a.1 r.is in
    let y = field_stands (codes " ") r.a.1 p.a.0 p.a.1 p.is in
    let z = last_stands (codes " ") p.a.1 q.a q.is in
    subst (λ t. (l ≡ step_line t) × IsStep t) m.1 (
      w.0 ∙ ap (λ t. fact_words f.a.0 ++ t) (x.0 ∙ ap (λ t. codes " K" ++ (decimal r.a.0 ++ t)) (y.0 ∙ ap (λ t. codes " " ++ (decimal p.a.0 ++ t)) z.0)),
      record { fact = w.1; rule = rule_from r.a.0 m.0; p = y.1; q = z.1 },
    )
