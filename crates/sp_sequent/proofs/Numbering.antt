-- Numbers of expressions in a list, and the nodes that they give.
use Rattle.std.proofs.Common.{◌≡◌, refl, sym, ◌∙◌, ap, subst, rules, arith, ℕ, zero, suc, ◌<◌, ◌≤◌, Bool, true, false, ◌||◌, ◌&&◌, ⊎_elim, ◌⊎◌, inl, inr, List, [], ◌∷◌, ◌++◌, map, length, append_assoc}
use Rattle.std.specs.Prelude.{◌==◌, slice_index, slice_index_or, IsTrue, slice_get, Some, None, if◌then◌else◌, Option}
use Rattle.std.specs.Bool.{Decides}
use Rattle.std.specs.List.{range_with_len, flat_map}
use Rattle.std.proofs.lemmas.List.FromFn.{get_or-map-range_with_len}
use Rattle.std.proofs.lemmas.Option.{slice_get-map}
use Rattle.std.specs.Option.{option_map}
use Rattle.std.proofs.lemmas.Bool.{cases_lt}
use Rattle.std.proofs.lemmas.List.{get_or_past, map-append, length-append, ext_get_or, length-map, append-nil}
use Rattle.sp_pool.specs.declared.node.Node.{Node}
use Rattle.sp_pool.specs.declared.node.TermId.{TermId}
use Rattle.sp_pool.specs.Nodes.{term, HasNode, IsHeld, IsNode}
use Rattle.std.proofs.lemmas.Option.{none-some, same_Some, slice_get_within}
use Rattle.sp_pool.proofs.NodeLaws.{get_last, get_pushed}
use Rattle.sp_pool.specs.declared.node.Head.TheVariants as head
use Rattle.sp_values.specs.declared.value.Ty.{Ty}
use Rattle.sp_values.specs.declared.value.Op.{Op}
use Rattle.sp_values.specs.declared.value.Value.{Value}
use Rattle.sp_values.specs.Identity.{same_value, same_value-Decides}
use Rattle.sp_core.specs.Tree.{Tree, Trees, Const, Var, Not, Two, If, Param, Look, Every, New, none, more}
use Rattle.sp_sequent.specs.Same.{same_operator, same_tree, same_trees, same_type}
use Rattle.sp_sequent.specs.Subterms.{contains, ends, ends_in, is_quantified, number, quantified, with_all, with_new}
use Rattle.sp_sequent.proofs.Weights.{weight, weights}
use Rattle.sp_sequent.specs.Numbers.{AreShort, IsShort, HasEach, Numbers, head_of, list_of, node, node_of, nodes_of, parts}

-- The test of identity

pub same_type-Decides : (t u : Ty) → Decides (same_type t u) (t ≡ u)
same_type-Decides t u = search rules

pub same_operator-Decides : (o p : Op) → Decides (same_operator o p) (o ≡ p)
same_operator-Decides o p = search rules

both : (a b : Bool) → (a && b) ≡ true → (a ≡ true) × (b ≡ true)
both true b e = (refl, e)
both false b e = cc

together : {a b : Bool} → a ≡ true → b ≡ true → (a && b) ≡ true
together {a = true} {b = b} p q = q
together {a = false} {b = b} p q = cc

value_is : (v u : Value) → same_value v u ≡ true → v ≡ u
value_is v u e = (same_value-Decides v u).0 e

num_is : (k j : ℕ) → (k == j) ≡ true → k ≡ j
num_is k j e = search rules

num_self : (k : ℕ) → (k == k) ≡ true
num_self k = search rules

mutual
  pub same_tree-is : (a b : Tree) → same_tree a b ≡ true → a ≡ b
  same_tree-is (Const v) (Const u) e = ap Const (value_is v u e)
  same_tree-is (Var k) (Var j) e = ap Var (num_is k j e)
  same_tree-is (Not a) (Not b) e = ap Not (same_tree-is a b e)
  same_tree-is (Two o a b) (Two p c d) e =
      let h = both (same_operator o p) (same_tree a c && same_tree b d) e in let g = both (same_tree a c) (same_tree b d) h.1 in
      let x : o ≡ p = (same_operator-Decides o p).0 h.0 in let y = same_tree-is a c g.0 in let z = same_tree-is b d g.1 in λ i. Two (x i) (y i) (z i)
  same_tree-is (If a b c) (If d f g) e =
      let h = both (same_tree a d) (same_tree b f && same_tree c g) e in let k = both (same_tree b f) (same_tree c g) h.1 in
      let x = same_tree-is a d h.0 in let y = same_tree-is b f k.0 in let z = same_tree-is c g k.1 in λ i. If (x i) (y i) (z i)
  same_tree-is (Param p ds) (Param q es) e =
      let h = both (p == q) (same_trees ds es) e in let x = num_is p q h.0 in let y = same_trees-is ds es h.1 in λ i. Param (x i) (y i)
  same_tree-is (Look p ds) (Look q es) e =
      let h = both (p == q) (same_trees ds es) e in let x = num_is p q h.0 in let y = same_trees-is ds es h.1 in λ i. Look (x i) (y i)
  same_tree-is (Every k t a) (Every j u b) e =
      let h = both (k == j) (same_type t u && same_tree a b) e in let g = both (same_type t u) (same_tree a b) h.1 in
      let x = num_is k j h.0 in let y : t ≡ u = (same_type-Decides t u).0 g.0 in let z = same_tree-is a b g.1 in λ i. Every (x i) (y i) (z i)
  same_tree-is (New p ds) (New q es) e =
      let h = both (p == q) (same_trees ds es) e in let x = num_is p q h.0 in let y = same_trees-is ds es h.1 in λ i. New (x i) (y i)
  same_tree-is a b e = cc

  same_trees-is : (ds es : Trees) → same_trees ds es ≡ true → ds ≡ es
  same_trees-is none none e = refl
  same_trees-is (more d ds) (more f es) e =
      let h = both (same_tree d f) (same_trees ds es) e in let x = same_tree-is d f h.0 in let y = same_trees-is ds es h.1 in λ i. more (x i) (y i)
  same_trees-is ds es e = cc

mutual
  pub same_tree-self : (a : Tree) → same_tree a a ≡ true
  same_tree-self (Const v) = (same_value-Decides v v).1 refl
  same_tree-self (Var k) = num_self k
  same_tree-self (Not a) = same_tree-self a
  same_tree-self (Two o a b) = together ((same_operator-Decides o o).1 refl) (together (same_tree-self a) (same_tree-self b))
  same_tree-self (If a b c) = together (same_tree-self a) (together (same_tree-self b) (same_tree-self c))
  same_tree-self (Param p ds) = together (num_self p) (same_trees-self ds)
  same_tree-self (Look p ds) = together (num_self p) (same_trees-self ds)
  same_tree-self (Every k t a) = together (num_self k) (together ((same_type-Decides t t).1 refl) (same_tree-self a))
  same_tree-self (New p ds) = together (num_self p) (same_trees-self ds)

  same_trees-self : (ds : Trees) → same_trees ds ds ≡ true
  same_trees-self none = refl
  same_trees-self (more d ds) = together (same_tree-self d) (same_trees-self ds)

-- Places

abbrev pub Has : List Tree → Tree → Type 0
Has ts e = IsTrue (contains ts e)

cases : (b : Bool) → (b ≡ true) ⊎ (b ≡ false)
cases true = inl refl
cases false = inr refl

module _ (t : Tree) (ts : List Tree) (e : Tree) where
  pub number_here : same_tree t e ≡ true → number (t ∷ ts) e ≡ 0
  number_here q = ap (λ b. if b then 0 else suc (number ts e)) q

  pub number_later : same_tree t e ≡ false → number (t ∷ ts) e ≡ suc (number ts e)
  number_later q = ap (λ b. if b then 0 else suc (number ts e)) q

  has_here : same_tree t e ≡ true → Has (t ∷ ts) e
  has_here q = ap (λ b. b || contains ts e) q

  has_there : same_tree t e ≡ false → contains (t ∷ ts) e ≡ contains ts e
  has_there q = ap (λ b. b || contains ts e) q

-- an expression of the list stands where its number says
pub number_at : (ts : List Tree) (e : Tree) → Has ts e → slice_get ts (number ts e) ≡ Some e
number_at [] e h = cc
number_at (t ∷ ts) e h = ⊎_elim (λ q. ap (slice_get (t ∷ ts)) (number_here t ts e q) ∙ ap Some (same_tree-is t e q))
    (λ q. ap (slice_get (t ∷ ts)) (number_later t ts e q) ∙ number_at ts e (sym (has_there t ts e q) ∙ h)) (cases (same_tree t e))

pub number_within : (ts : List Tree) (e : Tree) → Has ts e → number ts e < length ts
number_within ts e h = slice_get_within ts (number ts e) e (number_at ts e h)

pub number_absent : (ts : List Tree) (e : Tree) → contains ts e ≡ false → number ts e ≡ length ts
number_absent [] e h = refl
number_absent (t ∷ ts) e h = ⊎_elim (λ q. absurd (no (sym (has_here t ts e q) ∙ h)))
    (λ q. number_later t ts e q ∙ ap suc (number_absent ts e (sym (has_there t ts e q) ∙ h))) (cases (same_tree t e))
  where
    no : true ≡ false → ⊥
    no q = cc

pub has_at : (ts : List Tree) (i : ℕ) (e : Tree) → slice_get ts i ≡ Some e → Has ts e
has_at [] i e h = absurd (none-some e h)
has_at (t ∷ ts) zero e h = has_here t ts e (ap (λ u. same_tree u e) (same_Some t e h) ∙ same_tree-self e)
has_at (t ∷ ts) (suc i) e h = ⊎_elim (λ q. has_here t ts e q) (λ q. has_there t ts e q ∙ has_at ts i e h) (cases (same_tree t e))

pub has_more : (ts us : List Tree) (e : Tree) → Has ts e → Has (ts ++ us) e
has_more [] us e h = cc
has_more (t ∷ ts) us e h = ⊎_elim (λ q. has_here t (ts ++ us) e q) (λ q. has_there t (ts ++ us) e q ∙ has_more ts us e (sym (has_there t ts e q) ∙ h)) (cases (same_tree t e))

pub number_more : (ts us : List Tree) (e : Tree) → Has ts e → number (ts ++ us) e ≡ number ts e
number_more [] us e h = cc
number_more (t ∷ ts) us e h = ⊎_elim (λ q. number_here t (ts ++ us) e q ∙ sym (number_here t ts e q))
    (λ q. number_later t (ts ++ us) e q ∙ ap suc (number_more ts us e (sym (has_there t ts e q) ∙ h)) ∙ sym (number_later t ts e q)) (cases (same_tree t e))

-- a further one has the next number, whether it was there or not
pub number_last : (ts : List Tree) (e : Tree) → number (ts ++ e ∷ []) e ≡ number ts e
number_last [] e = number_here e [] e (same_tree-self e)
number_last (t ∷ ts) e = ⊎_elim (λ q. number_here t (ts ++ e ∷ []) e q ∙ sym (number_here t ts e q))
    (λ q. number_later t (ts ++ e ∷ []) e q ∙ ap suc (number_last ts e) ∙ sym (number_later t ts e q)) (cases (same_tree t e))

pub has_last : (ts : List Tree) (e : Tree) → Has (ts ++ e ∷ []) e
has_last ts e = has_at (ts ++ e ∷ []) (length ts) e (get_last ts e)

-- one number, one expression
pub number_one : (ts : List Tree) (x e : Tree) → Has ts x → number ts x ≡ number ts e → x ≡ e
number_one ts x e h q = ⊎_elim (λ there. same_Some x e (sym (number_at ts x h) ∙ ap (slice_get ts) q ∙ number_at ts e there))
    (λ away. absurd (omega (arith, number_within ts x h, q, number_absent ts e away))) (cases (contains ts e))

-- The quantified ones

quantified-append : (ts us : List Tree) → quantified (ts ++ us) ≡ quantified ts ++ quantified us
quantified-append [] us = refl
quantified-append (t ∷ ts) us = by (is_quantified t) (quantified-append ts us)
  where
    by : (b : Bool) → quantified (ts ++ us) ≡ quantified ts ++ quantified us
        → (if b then t ∷ quantified (ts ++ us) else quantified (ts ++ us)) ≡ (if b then t ∷ quantified ts else quantified ts) ++ quantified us
    by true r = ap (λ qs. t ∷ qs) r
    by false r = r

quantified_has : (ts : List Tree) (e : Tree) → is_quantified e ≡ true → Has ts e → Has (quantified ts) e
quantified_has [] e k h = cc
quantified_has (t ∷ ts) e k h = ⊎_elim here (λ q. by (is_quantified t) (quantified_has ts e k (sym (has_there t ts e q) ∙ h)) q) (cases (same_tree t e))
  where
    here : same_tree t e ≡ true → Has (quantified (t ∷ ts)) e
    here q =
        let same = same_tree-is t e q in
        ap (λ b. contains (if b then t ∷ quantified ts else quantified ts) e) (ap is_quantified same ∙ k) ∙ has_here t (quantified ts) e q

    by : (b : Bool) → Has (quantified ts) e → same_tree t e ≡ false → Has (if b then t ∷ quantified ts else quantified ts) e
    by true r q = has_there t (quantified ts) e q ∙ r
    by false r q = r

-- Heads and nodes as the list grows

head_more : (ts us : List Tree) (x : Tree) → Has ts x → head_of (ts ++ us) x ≡ head_of ts x
head_more ts us (Const v) h = refl
head_more ts us (Var k) h = refl
head_more ts us (Not a) h = refl
head_more ts us (Two o a b) h = refl
head_more ts us (If c a b) h = refl
head_more ts us (Param p ds) h = refl
head_more ts us (Look g ds) h = refl
head_more ts us (Every k t b) h =
    ap (λ qs. head.Quant (number qs (Every k t b))) (quantified-append ts us) ∙ ap head.Quant (number_more (quantified ts) (quantified us) (Every k t b) (quantified_has ts (Every k t b) refl h))
head_more ts us (New g ds) h = refl

head_last : (ts : List Tree) (e : Tree) → head_of (ts ++ e ∷ []) e ≡ head_of ts e
head_last ts (Const v) = refl
head_last ts (Var k) = refl
head_last ts (Not a) = refl
head_last ts (Two o a b) = refl
head_last ts (If c a b) = refl
head_last ts (Param p ds) = refl
head_last ts (Look g ds) = refl
head_last ts (Every k t b) = ap (λ qs. head.Quant (number qs (Every k t b))) (quantified-append ts (Every k t b ∷ [])) ∙ ap head.Quant (number_last (quantified ts) (Every k t b))
head_last ts (New g ds) = refl

pub numbers_more : (ts us ds : List Tree) → HasEach ts ds → map (number (ts ++ us)) ds ≡ map (number ts) ds
numbers_more ts us [] h = refl
numbers_more ts us (d ∷ ds) h = let x = number_more ts us d h.0 in let y = numbers_more ts us ds h.1 in λ i. x i ∷ y i

pub has_each_more : (ts us ds : List Tree) → HasEach ts ds → HasEach (ts ++ us) ds
has_each_more ts us [] h = tt
has_each_more ts us (d ∷ ds) h = (has_more ts us d h.0, has_each_more ts us ds h.1)

node_more : (ts us : List Tree) (x : Tree) → Has ts x → HasEach ts (parts x) → node_of (ts ++ us) x ≡ node_of ts x
node_more ts us x h p = let a = head_more ts us x h in let b = numbers_more ts us (parts x) p in λ i. node (a i) (b i)

node_last : (ts : List Tree) (e : Tree) → HasEach ts (parts e) → node_of (ts ++ e ∷ []) e ≡ node_of ts e
node_last ts e p = let a = head_last ts e in let b = numbers_more ts (e ∷ []) (parts e) p in λ i. node (a i) (b i)

map_same : {A B : Type 0} (f g : A → B) (xs : List A) → ((i : ℕ) (x : A) → slice_get xs i ≡ Some x → f x ≡ g x) → map f xs ≡ map g xs
map_same f g [] h = refl
map_same f g (x ∷ xs) h = let a = h 0 x refl in let b = map_same f g xs (λ i y q. h (suc i) y q) in λ i. a i ∷ b i

-- One node, one expression

parts_one : (ts ds es : List Tree) → HasEach ts ds → map (number ts) ds ≡ map (number ts) es → ds ≡ es
parts_one ts [] [] h q = refl
parts_one ts [] (e ∷ es) h q = cc
parts_one ts (d ∷ ds) [] h q = cc
parts_one ts (d ∷ ds) (e ∷ es) h q =
    let a = number_one ts d e h.0 (cc) in let b = parts_one ts ds es h.1 (cc) in λ i. a i ∷ b i

trees_one : (ds es : Trees) → list_of ds ≡ list_of es → ds ≡ es
trees_one none none q = refl
trees_one none (more e es) q = cc
trees_one (more d ds) none q = cc
trees_one (more d ds) (more e es) q = let a : d ≡ e = cc in let b = trees_one ds es (cc) in λ i. more (a i) (b i)

same_by : (ts : List Tree) (x e : Tree) → Has ts x → head_of ts x ≡ head_of ts e → parts x ≡ parts e → x ≡ e
same_by ts (Const v) (Const u) h p q = cc
same_by ts (Var k) (Var j) h p q = cc
same_by ts (Not a) (Not b) h p q = cc
same_by ts (Two o a b) (Two r c d) h p q = cc
same_by ts (If a b c) (If d e f) h p q = cc
same_by ts (Param r ds) (Param s es) h p q = let a : r ≡ s = cc in let b = trees_one ds es q in λ i. Param (a i) (b i)
same_by ts (Look r ds) (Look s es) h p q = let a : r ≡ s = cc in let b = trees_one ds es q in λ i. Look (a i) (b i)
same_by ts (Every k t a) (Every j u b) h p q = number_one (quantified ts) (Every k t a) (Every j u b) (quantified_has ts (Every k t a) refl h) (cc)
same_by ts (New r ds) (New s es) h p q = let a : r ≡ s = cc in let b = trees_one ds es q in λ i. New (a i) (b i)
same_by ts x e h p q = cc

slice_index_same : (ks ls : List ℕ) → length ks ≡ length ls → length ks ≤ 8 → ((k : ℕ) → k < 8 → slice_index ks k ≡ slice_index ls k) → ks ≡ ls
slice_index_same ks ls q few each = ext_get_or 0 ks ls q (λ i below. each i (omega arith))

node_args : (ks ls : List ℕ) → (map (λ k. term (slice_index ks k)) (range_with_len 0 8)) ≡ (map (λ k. term (slice_index ls k)) (range_with_len 0 8)) → (k : ℕ) → k < 8 → slice_index ks k ≡ slice_index ls k
node_args ks ls q k below =
    sym (read ks) ∙ ap (λ ts. (slice_index_or ts k (term 0)).0) q ∙ read ls
  where
    read : (ms : List ℕ) → (slice_index_or (map (λ k. term (slice_index ms k)) (range_with_len 0 8)) k (term 0)).0 ≡ slice_index ms k
    read ms = ap (λ (t : TermId). t.0) (get_or-map-range_with_len (λ k. term (slice_index ms k)) 0 8 k k (term 0) below (omega arith))

node_one : (ts : List Tree) (x e : Tree) → length (parts e) ≤ 8 → Has ts x → HasEach ts (parts x) → node_of ts x ≡ node_of ts e → x ≡ e
node_one ts x e few h p q =
    let counts : length (map (number ts) (parts x)) ≡ length (map (number ts) (parts e)) = ap (λ (n : Node). n.count) q in
    let short : length (map (number ts) (parts e)) ≤ 8 = omega (arith, length-map (parts e) (number ts)) in
    same_by ts x e h (ap (λ (n : Node). n.head) q)
    (parts_one ts (parts x) (parts e) p (slice_index_same (map (number ts) (parts x)) (map (number ts) (parts e)) counts (omega arith)
    (node_args (map (number ts) (parts x)) (map (number ts) (parts e)) (ap (λ (n : Node). n.args) q))))

arg_at : (ks : List ℕ) (k : ℕ) → k < 8 → (slice_index_or (map (λ k. term (slice_index ks k)) (range_with_len 0 8)) k (term 0)).0 ≡ slice_index ks k
arg_at ks k below = ap (λ (t : TermId). t.0) (get_or-map-range_with_len (λ k. term (slice_index ks k)) 0 8 k k (term 0) below (omega arith))

-- What a pool holds

module _ (held : List Node) (ts : List Tree) (h : Numbers held ts) where
  pub held_at : (e : Tree) → Has ts e → HasNode held (number ts e) (node_of ts e)
  held_at e has = ap (λ ns. slice_get ns (number ts e)) h.all ∙ slice_get-map (node_of ts) ts (number ts e) ∙ ap (option_map (node_of ts)) (number_at ts e has)

  parts_of : (e : Tree) → Has ts e → HasEach ts (parts e)
  parts_of e has = h.parts (number ts e) e (number_at ts e has)

  tree_behind : (i : ℕ) (n : Node) → HasNode held i n → (x : Tree) × (slice_get ts i ≡ Some x) × (node_of ts x ≡ n)
  tree_behind i n q = behind (slice_get ts i) refl
    where
      at : option_map (node_of ts) (slice_get ts i) ≡ Some n
      at = sym (ap (λ ns. slice_get ns i) h.all ∙ slice_get-map (node_of ts) ts i) ∙ q

      behind : (o : Option Tree) → slice_get ts i ≡ o → (x : Tree) × (slice_get ts i ≡ Some x) × (node_of ts x ≡ n)
      behind None f = absurd (none-some n (sym (ap (option_map (node_of ts)) f) ∙ at))
      behind (Some x) f = (x, f, same_Some (node_of ts x) n (sym (ap (option_map (node_of ts)) f) ∙ at))

  -- a node that is held is that of a subterm
  pub is_held : (e : Tree) → length (parts e) ≤ 8 → IsHeld held (node_of ts e) → Has ts e
  is_held e few q =
      let b = tree_behind q.0 (node_of ts e) q.1 in
      let has = has_at ts q.0 b.0 b.1 in
      subst (Has ts) (node_one ts b.0 e few has (parts_of b.0 has) b.2) has

  pub length_held : length held ≡ length ts
  length_held = ap length h.all ∙ length-map ts (node_of ts)

  numbers_below : (ds : List Tree) → HasEach ts ds → (k : ℕ) → k < length ds → slice_index (map (number ts) ds) k < length held
  numbers_below [] g k below = absurd (omega arith)
  numbers_below (d ∷ ds) g zero below = omega (arith, length_held, number_within ts d g.0)
  numbers_below (d ∷ ds) g (suc k) below = numbers_below ds g.1 k (omega arith)

  pub is_node : (e : Tree) → length (parts e) ≤ 8 → HasEach ts (parts e) → IsNode (length held) (node_of ts e)
  is_node e few g =
      let counted : length (map (number ts) (parts e)) ≡ length (parts e) = length-map (parts e) (number ts) in
      node_fine (map (number ts) (parts e)) (omega (arith, counted)) (λ k below. numbers_below (parts e) g k (omega (arith, counted)))
    where
      node_fine : (ks : List ℕ) → length ks ≤ 8 → ((k : ℕ) → k < length ks → slice_index ks k < length held) → IsNode (length held) (node (head_of ts e) ks)
      node_fine ks few each = record {
        few = few;
        earlier = λ k below. subst (λ n. n < length held) (sym (arg_at ks k (omega arith))) (each k below);
        padded = λ k past. ⊎_elim (λ less. arg_at ks k less ∙ get_or_past ks k 0 past) (λ over. ap (λ (t : TermId). t.0) (get_or_past (map (λ k. term (slice_index ks k)) (range_with_len 0 8)) k (term 0) (omega (arith, over)))) (cases_lt k 8);
      }

  -- one more subterm
  module _ (e : Tree) (fresh : contains ts e ≡ false) (g : HasEach ts (parts e)) where
    all_more : held ++ node_of ts e ∷ [] ≡ nodes_of (ts ++ e ∷ [])
    all_more =
        let old : held ≡ map (node_of (ts ++ e ∷ [])) ts =
        h.all ∙ map_same (node_of ts) (node_of (ts ++ e ∷ [])) ts (λ i x q. sym (node_more ts (e ∷ []) x (has_at ts i x q) (h.parts i x q))) in
        (λ i. old i ++ sym (node_last ts e g) i ∷ []) ∙ sym (map-append (node_of (ts ++ e ∷ [])) ts (e ∷ []))

    part_more : (i : ℕ) (x : Tree) → (slice_get ts i ≡ Some x) ⊎ ((i ≡ length ts) × (e ≡ x)) → HasEach (ts ++ e ∷ []) (parts x)
    part_more i x (inl q) = has_each_more ts (e ∷ []) (parts x) (h.parts i x q)
    part_more i x (inr q) = subst (λ x. HasEach (ts ++ e ∷ []) (parts x)) q.1 (has_each_more ts (e ∷ []) (parts e) g)

    apart_more : (i : ℕ) (x : Tree) → (slice_get ts i ≡ Some x) ⊎ ((i ≡ length ts) × (e ≡ x)) → number (ts ++ e ∷ []) x ≡ i
    apart_more i x (inl q) = number_more ts (e ∷ []) x (has_at ts i x q) ∙ h.apart i x q
    apart_more i x (inr q) = subst (λ x. number (ts ++ e ∷ []) x ≡ i) q.1 (number_last ts e ∙ number_absent ts e fresh ∙ sym q.0)

    pub numbers_with : Numbers (held ++ node_of ts e ∷ []) (ts ++ e ∷ [])
    numbers_with = record {
      all = all_more;
      parts = λ i x q. part_more i x (get_pushed ts e x i q);
      apart = λ i x q. apart_more i x (get_pushed ts e x i q);
    }

-- How the list grows

with_new_grows : (ts : List Tree) (e : Tree) → (us : List Tree) × (with_new ts e ≡ ts ++ us)
with_new_grows ts e = ⊎_elim (λ there. ([], ap (λ b. if b then ts else ts ++ e ∷ []) there ∙ sym (append-nil ts))) (λ away. (e ∷ [], ap (λ b. if b then ts else ts ++ e ∷ []) away)) (cases (contains ts e))

pub with_all_grows : (ts es : List Tree) → (us : List Tree) × (with_all ts es ≡ ts ++ us)
with_all_grows ts [] = ([], sym (append-nil ts))
with_all_grows ts (e ∷ es) =
    let a = with_new_grows ts e in let b = with_all_grows (with_new ts e) es in
    (a.0 ++ b.0, b.1 ∙ ap (λ x. x ++ b.0) a.1 ∙ append_assoc ts a.0 b.0)

pub with_all-append : (ts es fs : List Tree) → with_all ts (es ++ fs) ≡ with_all (with_all ts es) fs
with_all-append ts [] fs = refl
with_all-append ts (e ∷ es) fs = with_all-append (with_new ts e) es fs

pub with_all_longer : (ts es fs : List Tree) → length (with_all ts es) ≤ length (with_all ts (es ++ fs))
with_all_longer ts es fs =
    let g = with_all_grows (with_all ts es) fs in
    omega (arith, ap length (with_all-append ts es fs), ap length g.1, length-append (with_all ts es) g.0)

ends_list : (ds : Trees) → ends_in ds ≡ flat_map ends (list_of ds)
ends_list none = refl
ends_list (more d ds) = ap (λ es. ends d ++ es) (ends_list ds)

-- an expression's ends are those of its parts, and itself
pub ends_are : (e : Tree) → ends e ≡ flat_map ends (parts e) ++ e ∷ []
ends_are (Const v) = refl
ends_are (Var k) = refl
ends_are (Not a) = ap (λ x. x ++ Not a ∷ []) (sym (append-nil (ends a)))
ends_are (Two o a b) = ap (λ x. ends a ++ (x ++ Two o a b ∷ [])) (sym (append-nil (ends b))) ∙ sym (append_assoc (ends a) (ends b ++ []) (Two o a b ∷ []))
ends_are (If c a b) =
    ap (λ x. ends c ++ (ends a ++ (x ++ If c a b ∷ []))) (sym (append-nil (ends b)))
    ∙ ap (λ x. ends c ++ x) (sym (append_assoc (ends a) (ends b ++ []) (If c a b ∷ [])))
    ∙ sym (append_assoc (ends c) (ends a ++ (ends b ++ [])) (If c a b ∷ []))
ends_are (Param p ds) = ap (λ x. x ++ Param p ds ∷ []) (ends_list ds)
ends_are (Look g ds) = ap (λ x. x ++ Look g ds ∷ []) (ends_list ds)
ends_are (Every k t b) = refl
ends_are (New g ds) = ap (λ x. x ++ New g ds ∷ []) (ends_list ds)

-- parts are short and lighter
short_list : (ds : Trees) → AreShort ds → (k : ℕ) (d : Tree) → slice_get (list_of ds) k ≡ Some d → IsShort d
short_list none h k d q = absurd (none-some d q)
short_list (more x ds) h zero d q = subst IsShort (same_Some x d q) h.0
short_list (more x ds) h (suc k) d q = short_list ds h.1 k d q

pub short_part : (e : Tree) → IsShort e → (k : ℕ) (d : Tree) → slice_get (parts e) k ≡ Some d → IsShort d
short_part (Const v) h k d q = absurd (none-some d q)
short_part (Var j) h k d q = absurd (none-some d q)
short_part (Not a) h k d q = short_list (more a none) (h, tt) k d q
short_part (Two o a b) h k d q = short_list (more a (more b none)) (h.0, (h.1, tt)) k d q
short_part (If c a b) h k d q = short_list (more c (more a (more b none))) (h.0, (h.1, (h.2, tt))) k d q
short_part (Param p ds) h k d q = short_list ds h.1 k d q
short_part (Look g ds) h k d q = short_list ds h.1 k d q
short_part (Every j t b) h k d q = absurd (none-some d q)
short_part (New g ds) h k d q = short_list ds h.1 k d q

pub few_parts : (e : Tree) → IsShort e → length (parts e) ≤ 8
few_parts (Const v) h = omega arith
few_parts (Var k) h = omega arith
few_parts (Not a) h = omega arith
few_parts (Two o a b) h = omega arith
few_parts (If c a b) h = omega arith
few_parts (Param p ds) h = h.0
few_parts (Look g ds) h = h.0
few_parts (Every k t b) h = omega arith
few_parts (New g ds) h = h.0

light_list : (ds : Trees) (k : ℕ) (d : Tree) → slice_get (list_of ds) k ≡ Some d → weight d < weights ds
light_list none k d q = absurd (none-some d q)
light_list (more x ds) zero d q = omega (arith, ap weight (same_Some x d q))
light_list (more x ds) (suc k) d q = omega (arith, light_list ds k d q)

pub light_part : (e : Tree) (k : ℕ) (d : Tree) → slice_get (parts e) k ≡ Some d → weight d < weight e
light_part (Const v) k d q = absurd (none-some d q)
light_part (Var j) k d q = absurd (none-some d q)
light_part (Not a) zero d q = omega (arith, ap weight (same_Some a d q))
light_part (Not a) (suc k) d q = absurd (none-some d q)
light_part (Two o a b) zero d q = omega (arith, ap weight (same_Some a d q))
light_part (Two o a b) (suc zero) d q = omega (arith, ap weight (same_Some b d q))
light_part (Two o a b) (suc (suc k)) d q = absurd (none-some d q)
light_part (If c a b) zero d q = omega (arith, ap weight (same_Some c d q))
light_part (If c a b) (suc zero) d q = omega (arith, ap weight (same_Some a d q))
light_part (If c a b) (suc (suc zero)) d q = omega (arith, ap weight (same_Some b d q))
light_part (If c a b) (suc (suc (suc k))) d q = absurd (none-some d q)
light_part (Param p ds) k d q = omega (arith, light_list ds k d q)
light_part (Look g ds) k d q = omega (arith, light_list ds k d q)
light_part (Every j t b) k d q = absurd (none-some d q)
light_part (New g ds) k d q = omega (arith, light_list ds k d q)
