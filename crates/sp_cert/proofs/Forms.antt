-- The readers of steps and trees: what they take, what they tell, and where they stop.
use Rattle.std.proofs.Common.{◌≡◌, ℕ, zero, suc, ◌+◌, true, List, [], ◌∷◌, ◌++◌, map, length, Some, Ok, Err, refl, sym, ap, ◌∙◌, subst, arith, append_assoc, inl, inr}
use Rattle.sp_text.specs.declared.fault.TextFault.{TextFault}
use Rattle.sp_rules.specs.declared.fact.Fact.TheVariants as fact
use Rattle.sp_rules.specs.declared.fact.Step.{Step}
use Rattle.sp_cert.specs.declared.line.NodeLine.{NodeLine}
use Rattle.sp_cert.specs.declared.line.NodeLine.TheVariants as node
use Rattle.sp_cert.specs.Tree as plain
use Rattle.sp_cert.specs.Tree.{Tree, Split, Leaf}
use Rattle.sp_cert.specs.Spelling.{step_line, split_line, leaf_line, steps_line, tree_lines}
use Rattle.sp_cert.specs.Within.{IsNumber, IsStep, AreSteps, IsTree}
use Rattle.sp_cert.specs.Fields.{step_of, node_of}
use Rattle.sp_cert.specs.Answers.{feed_free}
use Rattle.sp_cert.specs.Input.{Input, Outcome, Reader, and_then, line, one, too_deep}
use Rattle.sp_cert.specs.Reader.{steps, leaf, split, below, tree_within, front}
use Rattle.sp_cert.proofs.LineLaws.{InTwo, step_reads, step_stands, node_reads, node_stands}
use Rattle.sp_cert.proofs.Inputs.{free_step, free_split, free_leaf, free_steps, from, past, Takes, Behind, takes_one, takes_two, takes_behind, takes_map, Told, told_two, both_read, Line, line_told, ok_value, line_free, one_whole}
use Rattle.sp_cert.proofs.Branches.{tree_bad, tree_deep, tree_deep_steps, tree_front_more, tree_more, tree_leaf}
use Rattle.sp_cert.proofs.Stuck.{deep, Stuck, in_turn, stuck_first, stuck_second, stuck_behind, stuck_before, stuck_one, Refusal, refusal}

-- these lines begin the lines of a good value
pub record Begins {A : Type 0} (spell : A → List (List ℕ)) (Good : A → Type 0) (ls : List (List ℕ)) : Type 0 where
  pub value : A
  pub good : Good value
  pub more : List (List ℕ)
  pub is : spell value ≡ ls ++ more

pub record Form {A : Type 0} (f : Reader A) (spell : A → List (List ℕ)) (Good Wide : A → Type 0) : Type 0 where
  pub takes : (a : A) → Good a → Takes f (spell a) a
  pub told : (i j : Input) (a : A) → f i ≡ Ok (a, j) → Good a × Told i (spell a) j
  pub stuck : (i : Input) (e : TextFault) → f i ≡ Err e → Stuck f (Begins spell Good) (Begins spell Wide) i e

zero_more : (n : ℕ) → n ≡ n + 0
zero_more n = omega arith

abbrev at_place : List ℕ → ℕ → Input
at_place r n = record { rest = r; at = n }

pub told_none : (i : Input) → Told i [] i
told_none i = record { is = refl; place = ap (at_place i.rest) (zero_more i.at) }

-- what comes before is an error, where the rest only makes something of it
pub map_refused : {A B : Type 0} (o : Outcome A) (h : A → B) (e : TextFault) → and_then o (λ a j. Ok (h a, j)) ≡ Err e → o ≡ Err e
map_refused (Ok p) h e k = absurd (cc)
map_refused (Err x) h e k = let same : x ≡ e = cc in cc

-- steps

abbrev pub Steps : ℕ → List Step → Type 0
Steps k ss = (length ss ≡ k) × AreSteps ss

abbrev pub steps_lines : List Step → List (List ℕ)
steps_lines ss = map step_line ss

blank : Step
blank = record { fact = fact.Eq 0 0; rule = 1; p = 0; q = 0 }

blank_good : IsStep blank
unfolding blank
blank_good = record { fact = (omega arith, omega arith); rule = (omega arith, omega arith); p = omega arith; q = omega arith }

blanks : ℕ → List Step
blanks zero = []
blanks (suc k) = blank ∷ blanks k

blanks_good : (k : ℕ) → Steps k (blanks k)
unfolding blanks
blanks_good zero = (refl, tt)
blanks_good (suc k) = let h = blanks_good k in (ap suc h.0, (blank_good, h.1))

pub steps_begin : (k : ℕ) → Begins steps_lines (Steps k) []
steps_begin k = record { value = blanks k; good = blanks_good k; more = steps_lines (blanks k); is = refl }

abbrev put_first : Step → List Step → List Step
put_first s ss = s ∷ ss

abbrev then_steps : ℕ → Step → Reader (List Step)
then_steps k s j = and_then (steps k j) (λ ss m. Ok (s ∷ ss, m))

step_more : (k : ℕ) (s : Step) (l : List ℕ) → l ≡ step_line s → IsStep s → (ls : List (List ℕ)) → Begins steps_lines (Steps k) ls → Begins steps_lines (Steps (suc k)) ((l ∷ []) ++ ls)
step_more k s l e g ls b = record { value = s ∷ b.value; good = (ap suc b.good.0, (g, b.good.1)); more = b.more; is = ap (λ t. step_line s ∷ t) b.is ∙ ap (λ t. t ∷ (ls ++ b.more)) (sym e) }

steps_takes : (k : ℕ) (ss : List Step) → Steps k ss → Takes (steps k) (steps_lines ss) ss
unfolding steps
steps_takes zero [] g r at = ap (λ n. let o : Outcome (List Step) = Ok ([], at_place r n) in o) (zero_more at)
steps_takes zero (s ∷ ss) g r at = let e : suc (length ss) ≡ 0 = g.0 in absurd (omega arith)
steps_takes (suc k) [] g r at = let e : 0 ≡ suc k = g.0 in absurd (omega arith)
steps_takes (suc k) (s ∷ ss) g r at =
    let e : suc (length ss) ≡ suc k = g.0 in
    takes_two (one step_of) (then_steps k) (step_line s ∷ []) (steps_lines ss) s (s ∷ ss)
    (takes_one step_of (step_line s) s (free_step s g.1.0) (step_reads s g.1.0))
    (takes_map (steps k) (put_first s) (steps_lines ss) ss (steps_takes k ss (omega arith, g.1.1))) r at

steps_told : (k : ℕ) (i j : Input) (ss : List Step) → steps k i ≡ Ok (ss, j) → Steps k ss × Told i (steps_lines ss) j
unfolding steps
steps_told zero i j ss e =
    let v = ok_value [] ss i j e in
    (subst (Steps 0) v.0 (refl, tt), subst (λ s. Told i (steps_lines s) j) v.0 (subst (Told i []) v.1 (told_none i)))
steps_told (suc k) i j ss e =
    let t = both_read (one step_of i) (then_steps k) ss j e in
    let l = line_told step_of i t.j t.a t.is in
    let s = step_stands l.line t.a l.is in
    let u = both_read (steps k t.j) (λ ss m. Ok (t.a ∷ ss, m)) ss j t.then in
    let v = ok_value (t.a ∷ u.a) ss u.j j u.then in
    let h = steps_told k t.j u.j u.a u.is in
    let w : Told i (step_line t.a ∷ steps_lines u.a) u.j = subst (λ x. Told i (x ∷ steps_lines u.a) u.j) s.0 (told_two i t.j u.j (l.line ∷ []) (steps_lines u.a) l.told h.1) in
    (subst (Steps (suc k)) v.0 (ap suc h.0.0, (s.1, h.0.1)), subst (λ x. Told i (steps_lines x) j) v.0 (subst (Told i (step_line t.a ∷ steps_lines u.a)) v.1 w))

steps_stuck : (k : ℕ) (i : Input) (e : TextFault) → steps k i ≡ Err e → Stuck (steps k) (Begins steps_lines (Steps k)) (Begins steps_lines (Steps k)) i e
unfolding steps
steps_stuck zero i e h = absurd (cc)
steps_stuck (suc k) i e h = by (refusal (one step_of i) (then_steps k) e h) (λ j. steps_stuck k j e)
  where
    by : Refusal (one step_of i) (then_steps k) e → ((j : Input) → steps k j ≡ Err e → Stuck (steps k) (Begins steps_lines (Steps k)) (Begins steps_lines (Steps k)) j e)
        → Stuck (in_turn (one step_of) (then_steps k)) (Begins steps_lines (Steps (suc k))) (Begins steps_lines (Steps (suc k))) i e
    by (inl x) below = stuck_first (one step_of) (then_steps k) i e (λ ls b. b) (λ ls b. b) (stuck_one step_of i e (steps_begin (suc k)) x)
    by (inr x) below =
        let l = line_told step_of i x.j x.a x.is in
        let s = step_stands l.line x.a l.is in
        stuck_second (one step_of) (then_steps k) i x.j e (l.line ∷ []) x.a (takes_one step_of l.line x.a l.free l.is) l.told (step_more k x.a l.line s.0 s.1) (step_more k x.a l.line s.0 s.1)
        (stuck_first (steps k) (λ ss m. Ok (x.a ∷ ss, m)) x.j e (λ ls b. b) (λ ls b. b) (below x.j (map_refused (steps k x.j) (put_first x.a) e x.refused)))

pub steps_form : (k : ℕ) → Form (steps k) steps_lines (Steps k) (Steps k)
steps_form k = record { takes = steps_takes k; told = steps_told k; stuck = steps_stuck k }

-- trees

abbrev leaf_after : List Step → Tree
leaf_after ss = Leaf ss

abbrev split_after : ℕ → Tree → Tree → Tree
split_after a t f = Split a t f

-- the second branch, behind the first
abbrev then_second : Reader Tree → ℕ → Tree → Reader Tree
then_second r a t j = and_then (r j) (λ f m. Ok (Split a t f, m))

abbrev then_leaf : List Step → Reader Tree
then_leaf ss m = Ok (Leaf ss, m)

abbrev then_split : ℕ → Tree → Tree → Reader Tree
then_split a t f m = Ok (Split a t f, m)

abbrev then_under : Reader Tree → List Step → Reader Tree
then_under r ss j = and_then (r j) (λ t m. Ok (plain.Steps ss t, m))

abbrev then_node : List Step → Tree → Reader Tree
then_node ss t m = Ok (plain.Steps ss t, m)

abbrev steps_after : List Step → Tree → Tree
steps_after ss t = plain.Steps ss t

abbrev err_tree : TextFault → Outcome Tree
err_tree e = Err e

abbrev ok_tree : Tree → Input → Outcome Tree
ok_tree t i = Ok (t, i)

module _ (format : ℕ) where
  abbrev pub Trees : ℕ → List (List ℕ) → Type 0
  Trees b = Begins tree_lines (IsTree format b)

  pub tree_begins : (b : ℕ) → Trees b []
  tree_begins b = record { value = Leaf []; good = (omega arith, tt); more = tree_lines (Leaf []); is = refl }

  leaf_begins : (b k : ℕ) (l : List ℕ) → l ≡ leaf_line k → IsNumber k → (ls : List (List ℕ)) → Begins steps_lines (Steps k) ls → Trees b ((l ∷ []) ++ ls)
  leaf_begins b k l e g ls s = record {
    value = Leaf s.value;
    good = (subst IsNumber (sym s.good.0) g, s.good.1);
    more = s.more;
    is = ap (λ n. leaf_line n ∷ steps_lines s.value) s.good.0 ∙ ap (λ x. x ∷ steps_lines s.value) (sym e) ∙ ap (λ t. l ∷ t) s.is;
  }

  first_begins : (b a : ℕ) (l : List ℕ) → l ≡ split_line a → IsNumber a → (ls : List (List ℕ)) → Trees b ls → Trees (suc b) ((l ∷ []) ++ ls)
  first_begins b a l e g ls t = record {
    value = Split a t.value (Leaf []);
    good = (g, t.good, (omega arith, tt));
    more = t.more ++ tree_lines (Leaf []);
    is = ap (λ x. x ∷ (tree_lines t.value ++ tree_lines (Leaf []))) (sym e) ∙ ap (λ x. l ∷ (x ++ tree_lines (Leaf []))) t.is ∙ ap (λ x. l ∷ x) (append_assoc ls t.more (tree_lines (Leaf [])));
  }

  second_begins : (b a : ℕ) (l : List ℕ) (t : Tree) → l ≡ split_line a → IsNumber a → IsTree format b t → (ls : List (List ℕ)) → Trees b ls → Trees (suc b) ((l ∷ []) ++ (tree_lines t ++ ls))
  second_begins b a l t e g h ls f = record {
    value = Split a t f.value;
    good = (g, h, f.good);
    more = f.more;
    is = ap (λ x. x ∷ (tree_lines t ++ tree_lines f.value)) (sym e) ∙ ap (λ x. l ∷ (tree_lines t ++ x)) f.is ∙ ap (λ x. l ∷ x) (sym (append_assoc (tree_lines t) ls f.more));
  }

  -- one budget more
  pub wider : (b : ℕ) (t : Tree) → IsTree format b t → IsTree format (suc b) t
  wider b (Leaf ss) g = g
  wider zero (Split a t f) g = absurd g
  wider zero (plain.Steps ss t) g = absurd g
  wider (suc b) (plain.Steps ss t) g = (g.0, g.1, wider b t g.2, g.3)
  wider (suc b) (Split a t f) g = (g.0, wider b t g.1, wider b f g.2)

  -- behind its first line a tree reads as its parts
  leaf_behind : (b k : ℕ) (l : List ℕ) → feed_free l ≡ true → (node_of format) l ≡ Some (node.Leaf k) → Behind (tree_within format b) (l ∷ []) (leaf k)
  leaf_behind b k l free is r at = tree_leaf format b (from (l ∷ []) r at) (past (l ∷ []) r at) k (takes_one (node_of format) l (node.Leaf k) free is r at)

  split_behind : (b a : ℕ) (l : List ℕ) → feed_free l ≡ true → (node_of format) l ≡ Some (node.Split a) → Behind (tree_within format (suc b)) (l ∷ []) (split (tree_within format b) a)
  split_behind b a l free is r at = tree_more format b (from (l ∷ []) r at) (past (l ∷ []) r at) a (takes_one (node_of format) l (node.Split a) free is r at)

  front_behind : (b k : ℕ) (l : List ℕ) → feed_free l ≡ true → (node_of format) l ≡ Some (node.Steps k) → Behind (tree_within format (suc b)) (l ∷ []) (front (tree_within format b) k)
  front_behind b k l free is r at = tree_front_more format b (from (l ∷ []) r at) (past (l ∷ []) r at) k (takes_one (node_of format) l (node.Steps k) free is r at)

  tree_takes : (b : ℕ) (t : Tree) → IsTree format b t → Takes (tree_within format b) (tree_lines t) t
  unfolding leaf split front
  tree_takes zero (plain.Steps ss t) g = absurd g
  tree_takes (suc b) (plain.Steps ss t) g =
      takes_behind (tree_within format (suc b)) (front (tree_within format b) (length ss)) (steps_line (length ss) ∷ []) (steps_lines ss ++ tree_lines t) (plain.Steps ss t)
      (front_behind b (length ss) (steps_line (length ss)) (free_steps (length ss) g.0) (node_reads format (node.Steps (length ss)) (record { small = g.0; two = g.3 })))
      (takes_two (steps (length ss)) (then_under (tree_within format b)) (steps_lines ss) (tree_lines t) ss (plain.Steps ss t) (steps_takes (length ss) ss (refl, g.1))
      (takes_map (tree_within format b) (steps_after ss) (tree_lines t) t (tree_takes b t g.2)))
  tree_takes b (Leaf ss) g =
      takes_behind (tree_within format b) (leaf (length ss)) (leaf_line (length ss) ∷ []) (steps_lines ss) (Leaf ss)
      (leaf_behind b (length ss) (leaf_line (length ss)) (free_leaf (length ss) g.0) (node_reads format (node.Leaf (length ss)) g.0))
      (takes_map (steps (length ss)) leaf_after (steps_lines ss) ss (steps_takes (length ss) ss (refl, g.1)))
  tree_takes zero (Split a t f) g = absurd g
  tree_takes (suc b) (Split a t f) g =
      takes_behind (tree_within format (suc b)) (split (tree_within format b) a) (split_line a ∷ []) (tree_lines t ++ tree_lines f) (Split a t f)
      (split_behind b a (split_line a) (free_split a g.0) (node_reads format (node.Split a) g.0))
      (takes_two (tree_within format b) (then_second (tree_within format b) a) (tree_lines t) (tree_lines f) t (Split a t f) (tree_takes b t g.1)
      (takes_map (tree_within format b) (split_after a t) (tree_lines f) f (tree_takes b f g.2)))

  abbrev TreeTold : ℕ → Input → Input → Tree → Type 0
  TreeTold b i j t = IsTree format b t × Told i (tree_lines t) j

  leaf_told : (b : ℕ) (i j0 j : Input) (t : Tree) (k : ℕ) (l : List ℕ) → l ≡ leaf_line k → IsNumber k → Told i (l ∷ []) j0 → leaf k j0 ≡ Ok (t, j) → TreeTold b i j t
  unfolding leaf
  leaf_told b i j0 j t k l is g told e =
      let u = both_read (steps k j0) then_leaf t j e in
      let v = ok_value (Leaf u.a) t u.j j u.then in
      let h = steps_told k j0 u.j u.a u.is in
      let w : Told i (leaf_line (length u.a) ∷ steps_lines u.a) u.j =
      subst (λ x. Told i (x ∷ steps_lines u.a) u.j) (is ∙ ap leaf_line (sym h.0.0)) (told_two i j0 u.j (l ∷ []) (steps_lines u.a) told h.1) in
      subst (TreeTold b i j) v.0 ((subst IsNumber (sym h.0.0) g, h.0.1), subst (Told i (leaf_line (length u.a) ∷ steps_lines u.a)) v.1 w)

  split_told : (b : ℕ) (i j0 j : Input) (t : Tree) (a : ℕ) (l : List ℕ) → l ≡ split_line a → IsNumber a → Told i (l ∷ []) j0
      → ((i j : Input) (t : Tree) → tree_within format b i ≡ Ok (t, j) → TreeTold b i j t) → split (tree_within format b) a j0 ≡ Ok (t, j) → TreeTold (suc b) i j t
  unfolding split
  split_told b i j0 j t a l is g told ih e =
      let u = both_read (tree_within format b j0) (then_second (tree_within format b) a) t j e in
      let x = ih j0 u.j u.a u.is in
      let v = both_read (tree_within format b u.j) (then_split a u.a) t j u.then in
      let y = ih u.j v.j v.a v.is in
      let z = ok_value (Split a u.a v.a) t v.j j v.then in
      let w = told_two i j0 v.j (l ∷ []) (tree_lines u.a ++ tree_lines v.a) told (told_two j0 u.j v.j (tree_lines u.a) (tree_lines v.a) x.1 y.1) in
      let q : Told i (tree_lines (Split a u.a v.a)) v.j = subst (λ x. Told i (x ∷ (tree_lines u.a ++ tree_lines v.a)) v.j) is w in
      subst (TreeTold (suc b) i j) z.0 ((g, x.0, y.0), subst (Told i (tree_lines (Split a u.a v.a))) z.1 q)

  front_told : (b : ℕ) (i j0 j : Input) (t : Tree) (k : ℕ) (l : List ℕ) → l ≡ steps_line k → InTwo format k → Told i (l ∷ []) j0
      → ((i j : Input) (t : Tree) → tree_within format b i ≡ Ok (t, j) → TreeTold b i j t) → front (tree_within format b) k j0 ≡ Ok (t, j) → TreeTold (suc b) i j t
  unfolding front
  front_told b i j0 j t k l is g told ih e =
      let u = both_read (steps k j0) (then_under (tree_within format b)) t j e in
      let x = steps_told k j0 u.j u.a u.is in
      let v = both_read (tree_within format b u.j) (then_node u.a) t j u.then in
      let y = ih u.j v.j v.a v.is in
      let z = ok_value (plain.Steps u.a v.a) t v.j j v.then in
      let w = told_two i j0 v.j (l ∷ []) (steps_lines u.a ++ tree_lines v.a) told (told_two j0 u.j v.j (steps_lines u.a) (tree_lines v.a) x.1 y.1) in
      let q : Told i (tree_lines (plain.Steps u.a v.a)) v.j = subst (λ x. Told i (x ∷ (steps_lines u.a ++ tree_lines v.a)) v.j) (is ∙ ap steps_line (sym x.0.0)) w in
      subst (TreeTold (suc b) i j) z.0 ((subst IsNumber (sym x.0.0) g.small, x.0.1, y.0, g.two), subst (Told i (tree_lines (plain.Steps u.a v.a))) z.1 q)

  told_by : (b : ℕ) (i j : Input) (t : Tree) (o : Outcome NodeLine) → one (node_of format) i ≡ o → tree_within format b i ≡ Ok (t, j)
      → ((c : ℕ) → suc c ≡ b → (i j : Input) (t : Tree) → tree_within format c i ≡ Ok (t, j) → TreeTold c i j t) → TreeTold b i j t
  told_by b i j t (Err x) h e ih = let c : err_tree x ≡ ok_tree t j = sym (tree_bad format b i x h) ∙ e in absurd (cc)
  told_by b i j t (Ok (node.Leaf k, j0)) h e ih =
      let l = line_told (node_of format) i j0 (node.Leaf k) h in
      let n = node_stands format l.line (node.Leaf k) l.is in
      leaf_told b i j0 j t k l.line n.0 n.1 l.told (sym (tree_leaf format b i j0 k h) ∙ e)
  told_by zero i j t (Ok (node.Split a, j0)) h e ih = let c : err_tree (too_deep i) ≡ ok_tree t j = sym (tree_deep format i j0 a h) ∙ e in absurd (cc)
  told_by (suc b) i j t (Ok (node.Split a, j0)) h e ih =
      let l = line_told (node_of format) i j0 (node.Split a) h in
      let n = node_stands format l.line (node.Split a) l.is in
      split_told b i j0 j t a l.line n.0 n.1 l.told (ih b refl) (sym (tree_more format b i j0 a h) ∙ e)
  told_by zero i j t (Ok (node.Steps k, j0)) h e ih = let c : err_tree (too_deep i) ≡ ok_tree t j = sym (tree_deep_steps format i j0 k h) ∙ e in absurd (cc)
  told_by (suc b) i j t (Ok (node.Steps k, j0)) h e ih =
      let l = line_told (node_of format) i j0 (node.Steps k) h in
      let n = node_stands format l.line (node.Steps k) l.is in
      front_told b i j0 j t k l.line n.0 n.1 l.told (ih b refl) (sym (tree_front_more format b i j0 k h) ∙ e)

  tree_told : (b : ℕ) (i j : Input) (t : Tree) → tree_within format b i ≡ Ok (t, j) → TreeTold b i j t
  tree_told zero i j t e = told_by zero i j t (one (node_of format) i) refl e (λ c z. absurd (let y : suc c ≡ 0 = z in omega arith))
  tree_told (suc b) i j t e = told_by (suc b) i j t (one (node_of format) i) refl e (λ c z. subst (λ n. (i j : Input) (t : Tree) → tree_within format n i ≡ Ok (t, j) → TreeTold n i j t) (back c z) (tree_told b))
    where
      back : (c : ℕ) → suc c ≡ suc b → b ≡ c
      back c z = omega arith

  abbrev TreeStuck : ℕ → Input → TextFault → Type 0
  TreeStuck b i e = Stuck (tree_within format b) (Trees b) (Trees (suc b)) i e

  -- a SPLIT line where none may stand
  deep_stuck : (i j : Input) (a : ℕ) (e : TextFault) → one (node_of format) i ≡ Ok (node.Split a, j) → e ≡ too_deep i → TreeStuck zero i e
  deep_stuck i j a e h f =
      let l = line_told (node_of format) i j (node.Split a) h in
      let n = node_stands format l.line (node.Split a) l.is in
      let t : Tree = Split a (Leaf []) (Leaf []) in
      record {
        kind = deep;
        before = [];
        rest = i.rest;
        is = refl;
        fault = f ∙ ap (λ n. too_deep (at_place i.rest n)) (zero_more i.at);
        local = λ q more at w.
            let r = line i.rest ++ (10 ∷ more) in
            tree_deep format (at_place r at) (past (line i.rest ∷ []) more at) a (one_whole (node_of format) (line i.rest) more at (node.Split a) (line_free i.rest) (ap (node_of format) l.same ∙ l.is))
            ∙ ap (λ n. err_tree (too_deep (at_place r n))) (zero_more at);
        begun = tree_begins zero;
        over = λ k. record {
          q = j.rest;
          whole = l.whole;
          begun = record {
            value = t;
            good = (n.1, (omega arith, tt), (omega arith, tt));
            more = tree_lines (Leaf []) ++ tree_lines (Leaf []);
            is = ap (λ x. x ∷ (tree_lines (Leaf []) ++ tree_lines (Leaf []))) (sym n.0 ∙ sym l.same);
          };
        };
      }

  deep_steps_stuck : (i j : Input) (k : ℕ) (e : TextFault) → one (node_of format) i ≡ Ok (node.Steps k, j) → e ≡ too_deep i → TreeStuck zero i e
  deep_steps_stuck i j k e h f =
      let l = line_told (node_of format) i j (node.Steps k) h in
      let n = node_stands format l.line (node.Steps k) l.is in
      let s = blanks_good k in
      let lines = steps_lines (blanks k) ++ tree_lines (Leaf []) in
      record {
        kind = deep;
        before = [];
        rest = i.rest;
        is = refl;
        fault = f ∙ ap (λ n. too_deep (at_place i.rest n)) (zero_more i.at);
        local = λ q more at w.
            let r = line i.rest ++ (10 ∷ more) in
            tree_deep_steps format (at_place r at) (past (line i.rest ∷ []) more at) k (one_whole (node_of format) (line i.rest) more at (node.Steps k) (line_free i.rest) (ap (node_of format) l.same ∙ l.is))
            ∙ ap (λ n. err_tree (too_deep (at_place r n))) (zero_more at);
        begun = tree_begins zero;
        over = λ z. record {
          q = j.rest;
          whole = l.whole;
          begun = record {
            value = plain.Steps (blanks k) (Leaf []);
            good = (subst IsNumber (sym s.0) n.1.small, s.1, (omega arith, tt), n.1.two);
            more = lines;
            is = ap (λ m. steps_line m ∷ lines) s.0 ∙ ap (λ x. x ∷ lines) (sym n.0 ∙ sym l.same);
          };
        };
      }

  steps_first : (b k : ℕ) (l : List ℕ) → l ≡ steps_line k → InTwo format k → (ls : List (List ℕ)) → Begins steps_lines (Steps k) ls → Trees (suc b) ((l ∷ []) ++ ls)
  steps_first b k l e g ls s = record {
    value = plain.Steps s.value (Leaf []);
    good = (subst IsNumber (sym s.good.0) g.small, s.good.1, (omega arith, tt), g.two);
    more = s.more ++ tree_lines (Leaf []);
    is = ap (λ n. steps_line n ∷ (steps_lines s.value ++ tree_lines (Leaf []))) s.good.0 ∙ ap (λ x. x ∷ (steps_lines s.value ++ tree_lines (Leaf []))) (sym e)
        ∙ ap (λ x. l ∷ (x ++ tree_lines (Leaf []))) s.is ∙ ap (λ x. l ∷ x) (append_assoc ls s.more (tree_lines (Leaf [])));
  }

  node_after : (b k : ℕ) (l : List ℕ) (ss : List Step) → l ≡ steps_line k → InTwo format k → Steps k ss → (ls : List (List ℕ)) → Trees b ls → Trees (suc b) ((l ∷ []) ++ (steps_lines ss ++ ls))
  node_after b k l ss e g h ls f = record {
    value = plain.Steps ss f.value;
    good = (subst IsNumber (sym h.0) g.small, h.1, f.good, g.two);
    more = f.more;
    is = ap (λ n. steps_line n ∷ (steps_lines ss ++ tree_lines f.value)) h.0 ∙ ap (λ x. x ∷ (steps_lines ss ++ tree_lines f.value)) (sym e)
        ∙ ap (λ x. l ∷ (steps_lines ss ++ x)) f.is ∙ ap (λ x. l ∷ x) (sym (append_assoc (steps_lines ss) ls f.more));
  }

  front_stuck : (b : ℕ) (i j : Input) (k : ℕ) (e : TextFault) → ((i : Input) (e : TextFault) → tree_within format b i ≡ Err e → TreeStuck b i e) → one (node_of format) i ≡ Ok (node.Steps k, j) → front (tree_within format b) k j ≡ Err e → TreeStuck (suc b) i e
  unfolding front
  front_stuck b i j k e ih h f =
      let l = line_told (node_of format) i j (node.Steps k) h in
      let n = node_stands format l.line (node.Steps k) l.is in
      by l n (refusal (steps k j) (then_under (tree_within format b)) e f)
    where
      by : (l : Line (node_of format) i (node.Steps k) j) → (l.line ≡ steps_line k) × InTwo format k → Refusal (steps k j) (then_under (tree_within format b)) e → TreeStuck (suc b) i e
      by l n (inl x) =
          stuck_behind (tree_within format (suc b)) (in_turn (steps k) (then_under (tree_within format b))) i j e (l.line ∷ []) (front_behind b k l.line l.free l.is) l.told
          (steps_first b k l.line n.0 n.1) (steps_first (suc b) k l.line n.0 n.1)
          (stuck_first (steps k) (then_under (tree_within format b)) j e (λ ls b. b) (λ ls b. b) (steps_stuck k j e x))
      by l n (inr x) =
          let y = steps_told k j x.j x.a x.is in
          let inner : Stuck (in_turn (steps k) (then_under (tree_within format b))) (λ ls. Trees (suc b) ((l.line ∷ []) ++ ls)) (λ ls. Trees (suc (suc b)) ((l.line ∷ []) ++ ls)) j e =
          stuck_second (steps k) (then_under (tree_within format b)) j x.j e (steps_lines x.a) x.a (steps_takes k x.a y.0) y.1
          (node_after b k l.line x.a n.0 n.1 y.0) (node_after (suc b) k l.line x.a n.0 n.1 y.0)
          (stuck_first (tree_within format b) (then_node x.a) x.j e (λ ls b. b) (λ ls b. b) (ih x.j e (map_refused (tree_within format b x.j) (steps_after x.a) e x.refused))) in
          stuck_behind (tree_within format (suc b)) (in_turn (steps k) (then_under (tree_within format b))) i j e (l.line ∷ []) (front_behind b k l.line l.free l.is) l.told (λ ls b. b) (λ ls b. b) inner

  split_stuck : (b : ℕ) (i j : Input) (a : ℕ) (e : TextFault) → ((i : Input) (e : TextFault) → tree_within format b i ≡ Err e → TreeStuck b i e) → one (node_of format) i ≡ Ok (node.Split a, j) → split (tree_within format b) a j ≡ Err e → TreeStuck (suc b) i e
  unfolding split
  split_stuck b i j a e ih h f =
      let l = line_told (node_of format) i j (node.Split a) h in
      let n = node_stands format l.line (node.Split a) l.is in
      by l n (refusal (tree_within format b j) (then_second (tree_within format b) a) e f)
    where
      by : (l : Line (node_of format) i (node.Split a) j) → (l.line ≡ split_line a) × IsNumber a → Refusal (tree_within format b j) (then_second (tree_within format b) a) e → TreeStuck (suc b) i e
      by l n (inl x) =
          stuck_behind (tree_within format (suc b)) (in_turn (tree_within format b) (then_second (tree_within format b) a)) i j e (l.line ∷ []) (split_behind b a l.line l.free l.is) l.told
          (first_begins b a l.line n.0 n.1) (first_begins (suc b) a l.line n.0 n.1)
          (stuck_first (tree_within format b) (then_second (tree_within format b) a) j e (λ ls b. b) (λ ls b. b) (ih j e x))
      by l n (inr x) =
          let y = tree_told b j x.j x.a x.is in
          let inner : Stuck (in_turn (tree_within format b) (then_second (tree_within format b) a)) (λ ls. Trees (suc b) ((l.line ∷ []) ++ ls)) (λ ls. Trees (suc (suc b)) ((l.line ∷ []) ++ ls)) j e =
          stuck_second (tree_within format b) (then_second (tree_within format b) a) j x.j e (tree_lines x.a) x.a (tree_takes b x.a y.0) y.1
          (second_begins b a l.line x.a n.0 n.1 y.0) (second_begins (suc b) a l.line x.a n.0 n.1 (wider b x.a y.0))
          (stuck_first (tree_within format b) (then_split a x.a) x.j e (λ ls b. b) (λ ls b. b) (ih x.j e (map_refused (tree_within format b x.j) (split_after a x.a) e x.refused))) in
          stuck_behind (tree_within format (suc b)) (in_turn (tree_within format b) (then_second (tree_within format b) a)) i j e (l.line ∷ []) (split_behind b a l.line l.free l.is) l.told (λ ls b. b) (λ ls b. b) inner

  leaf_stuck : (b : ℕ) (i j : Input) (k : ℕ) (e : TextFault) → one (node_of format) i ≡ Ok (node.Leaf k, j) → leaf k j ≡ Err e → TreeStuck b i e
  unfolding leaf
  leaf_stuck b i j k e h f =
      let l = line_told (node_of format) i j (node.Leaf k) h in
      let n = node_stands format l.line (node.Leaf k) l.is in
      stuck_behind (tree_within format b) (in_turn (steps k) then_leaf) i j e (l.line ∷ []) (leaf_behind b k l.line l.free l.is) l.told (leaf_begins b k l.line n.0 n.1) (leaf_begins (suc b) k l.line n.0 n.1)
      (stuck_first (steps k) then_leaf j e (λ ls b. b) (λ ls b. b) (steps_stuck k j e (map_refused (steps k j) leaf_after e f)))

  stuck_by : (b : ℕ) (i : Input) (e : TextFault) (o : Outcome NodeLine) → one (node_of format) i ≡ o → tree_within format b i ≡ Err e
      → ((c : ℕ) → suc c ≡ b → (i : Input) (e : TextFault) → tree_within format c i ≡ Err e → TreeStuck c i e) → TreeStuck b i e
  stuck_by b i e (Err x) h f ih =
      let same : x ≡ e = (let c : err_tree x ≡ err_tree e = sym (tree_bad format b i x h) ∙ f in cc) in
      stuck_before (node_of format) (tree_within format b) i e (tree_bad format b) (tree_begins b) (h ∙ ap Err same)
  stuck_by b i e (Ok (node.Leaf k, j)) h f ih = leaf_stuck b i j k e h (sym (tree_leaf format b i j k h) ∙ f)
  stuck_by zero i e (Ok (node.Split a, j)) h f ih = deep_stuck i j a e h (let c : err_tree (too_deep i) ≡ err_tree e = sym (tree_deep format i j a h) ∙ f in cc)
  stuck_by (suc b) i e (Ok (node.Split a, j)) h f ih = split_stuck b i j a e (ih b refl) h (sym (tree_more format b i j a h) ∙ f)
  stuck_by zero i e (Ok (node.Steps k, j)) h f ih = deep_steps_stuck i j k e h (let c : err_tree (too_deep i) ≡ err_tree e = sym (tree_deep_steps format i j k h) ∙ f in cc)
  stuck_by (suc b) i e (Ok (node.Steps k, j)) h f ih = front_stuck b i j k e (ih b refl) h (sym (tree_front_more format b i j k h) ∙ f)

  tree_stuck : (b : ℕ) (i : Input) (e : TextFault) → tree_within format b i ≡ Err e → TreeStuck b i e
  tree_stuck zero i e h = stuck_by zero i e (one (node_of format) i) refl h (λ c z. absurd (let y : suc c ≡ 0 = z in omega arith))
  tree_stuck (suc b) i e h = stuck_by (suc b) i e (one (node_of format) i) refl h (λ c z. subst (λ n. (i : Input) (e : TextFault) → tree_within format n i ≡ Err e → TreeStuck n i e) (back c z) (tree_stuck b))
    where
      back : (c : ℕ) → suc c ≡ suc b → b ≡ c
      back c z = omega arith

  pub tree_form : (b : ℕ) → Form (tree_within format b) tree_lines (IsTree format b) (IsTree format (suc b))
  tree_form b = record { takes = tree_takes b; told = tree_told b; stuck = tree_stuck b }
