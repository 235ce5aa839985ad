-- That a node's spelling is the words written for it, and spells that node.
use Rattle.std.proofs.Common.{◌≡◌, ℕ, zero, suc, ◌+◌, ◌-◌, ◌^◌, ◌<◌, ◌≤◌, ⊎_elim, List, [], ◌∷◌, ◌++◌, length, take, map, min, slice_index, refl, sym, ap, ◌∙◌, arith, length-append}
use Rattle.std.specs.List.{range_with_len}
use Rattle.std.proofs.lemmas.Bool.{cases_lt}
use Rattle.std.proofs.lemmas.List.{ext_get_or, get_or-take, length-take, length-take-le, get_or-map, get_or_past}
use Rattle.std.proofs.lemmas.List.FromFn.{fill_by_all}
use Rattle.sp_values.specs.declared.value.Value.TheVariants as value
use Rattle.sp_pool.specs.declared.node.TermId.{TermId}
use Rattle.sp_pool.specs.declared.node.Node.{Node}
use Rattle.sp_pool.specs.declared.node.Head.{Head}
use Rattle.sp_pool.specs.declared.node.Head.TheVariants as head
use Rattle.sp_pool.specs.Nodes.{term, arg_of}
use Rattle.sp_pool.specs.Spelling.{head_words, head_of, spelling, node_of, short, IsTidy}

abbrev pub three : List ℕ → List ℕ
three ws = slice_index ws 0 ∷ slice_index ws 1 ∷ slice_index ws 2 ∷ []

-- a head has three words
pub head_three : (h : Head) → head_words h ≡ three (head_words h)
head_three (head.Const (value.Truth b)) = refl
head_three (head.Const (value.Int z)) = refl
head_three (head.Const (value.Level x)) = refl
head_three (head.Const (value.Member k m)) = refl
head_three (head.Const value.Unknown) = refl
head_three (head.Var k) = refl
head_three head.Not = refl
head_three (head.Two o) = refl
head_three head.If = refl
head_three (head.Param k) = refl
head_three (head.Look k) = refl
head_three (head.New k) = refl
head_three (head.Quant k) = refl

length_numbers : (ts : List TermId) → length (map (λ (t : TermId). t.0) ts) ≡ length ts
length_numbers [] = refl
length_numbers (t ∷ ts) = ap suc (length_numbers ts)

module _ (n : Node) (few : n.count ≤ 8) (eight : length n.args ≡ 8) where
  numbers : List ℕ
  numbers = map (λ (t : TermId). t.0) (take n.count n.args)

  numbers_count : length numbers ≡ n.count
  unfolding numbers
  numbers_count = length_numbers (take n.count n.args) ∙ length-take-le n.count n.args (omega (arith, few, eight))

  number_at : (k : ℕ) → k < n.count → slice_index numbers k ≡ arg_of n k
  unfolding numbers
  number_at k below =
      get_or-map (λ (t : TermId). t.0) (take n.count n.args) k (term 0) 0 (omega (arith, below, length-take-le n.count n.args (omega (arith, few, eight))))
      ∙ ap (λ (t : TermId). t.0) (get_or-take n.count n.args k (term 0) below)

  spelling_is : spelling n ≡ slice_index (head_words n.head) 0 ∷ slice_index (head_words n.head) 1 ∷ slice_index (head_words n.head) 2 ∷ numbers
  unfolding numbers
  spelling_is = ap (λ ws. ws ++ map (λ (t : TermId). t.0) (take n.count n.args)) (head_three n.head)

  pub spelling_count : length (spelling n) ≡ n.count + 3
  spelling_count = ap length spelling_is ∙ omega (arith, numbers_count)

  -- words that begin with the head's and go on with the arguments' numbers are the spelling
  pub spelled : (words : List ℕ) → 12 ≤ length words → slice_index words 0 ≡ slice_index (head_words n.head) 0
      → slice_index words 1 ≡ slice_index (head_words n.head) 1 → slice_index words 2 ≡ slice_index (head_words n.head) 2
      → ((k : ℕ) → k < 8 → slice_index words (k + 3) ≡ arg_of n k) → take (3 + n.count) words ≡ spelling n
  spelled words long tag first second args = ext_get_or 0 (take (3 + n.count) words) (spelling n) (count ∙ sym spelling_count ∙ refl) (λ i below. at i (omega (arith, below, count)))
    where
      count : length (take (3 + n.count) words) ≡ n.count + 3
      count = length-take-le (3 + n.count) words (omega (arith, few, long)) ∙ omega arith

      at : (i : ℕ) → i < 3 + n.count → slice_index (take (3 + n.count) words) i ≡ slice_index (spelling n) i
      at zero below = get_or-take (3 + n.count) words 0 0 below ∙ tag ∙ ap (λ ws. slice_index ws 0) (sym spelling_is)
      at (suc zero) below = get_or-take (3 + n.count) words 1 0 below ∙ first ∙ ap (λ ws. slice_index ws 1) (sym spelling_is)
      at (suc (suc zero)) below = get_or-take (3 + n.count) words 2 0 below ∙ second ∙ ap (λ ws. slice_index ws 2) (sym spelling_is)
      at (suc (suc (suc k))) below =
          let more : k + 3 ≡ suc (suc (suc k)) = omega arith in
          get_or-take (3 + n.count) words (suc (suc (suc k))) 0 below
          ∙ ap (slice_index words) (sym more) ∙ args k (omega (arith, below, few)) ∙ sym (number_at k (omega (arith, below)))
          ∙ ap (λ ws. slice_index ws (suc (suc (suc k)))) (sym spelling_is)

  -- the spelling spells the node
  pub spells : IsTidy n → ((k : ℕ) → k < 8 → arg_of n k < 2 ^ 16)
      → head_of (slice_index (head_words n.head) 0) (slice_index (head_words n.head) 1) (slice_index (head_words n.head) 2) ≡ n.head → node_of (spelling n) ≡ n
  unfolding node_of
  spells tidy small top =
      ap (λ (h : Head). let r : Node = record { head = h; count = length (spelling n) - 3; args = read } in r) (heads ∙ top)
      ∙ ap (λ (c : ℕ). let r : Node = record { head = n.head; count = c; args = read } in r) counts
      ∙ ap (λ (ts : List TermId). let r : Node = record { head = n.head; count = n.count; args = ts } in r) (sym args)
    where
      read : List TermId
      read = map (λ k. term (short (slice_index (spelling n) (k + 3)))) (range_with_len 0 8)

      heads : head_of (slice_index (spelling n) 0) (slice_index (spelling n) 1) (slice_index (spelling n) 2)
          ≡ head_of (slice_index (head_words n.head) 0) (slice_index (head_words n.head) 1) (slice_index (head_words n.head) 2)
      heads = ap (λ ws. head_of (slice_index ws 0) (slice_index ws 1) (slice_index ws 2)) spelling_is

      counts : length (spelling n) - 3 ≡ n.count
      counts = omega (arith, spelling_count)

      word_at : (k : ℕ) → slice_index (spelling n) (k + 3) ≡ slice_index numbers k
      word_at k =
          let more : k + 3 ≡ suc (suc (suc k)) = omega arith in
          ap (slice_index (spelling n)) more ∙ ap (λ ws. slice_index ws (suc (suc (suc k)))) spelling_is

      low : (x : ℕ) → x < 2 ^ 16 → short x ≡ x
      low x h = omega arith

      arg_at : (k : ℕ) → k < 8 → slice_index (spelling n) (k + 3) ≡ arg_of n k
      arg_at k below = ⊎_elim (λ less. word_at k ∙ number_at k less)
          (λ past. word_at k ∙ get_or_past numbers k 0 (omega (arith, past, numbers_count)) ∙ sym (tidy.padded k past)) (cases_lt k n.count)

      args : n.args ≡ read
      args = fill_by_all (λ k. term (short (slice_index (spelling n) (k + 3)))) n.args 8 (term 0) eight
          (λ k below. ap term (sym (low (arg_of n k) (small k below)) ∙ ap short (sym (arg_at k below))))

-- what words spell has eight places, and as many arguments as there are words behind the first three
pub read_eight : (words : List ℕ) → length (node_of words).args ≡ 8
unfolding node_of
read_eight words = refl

pub read_count : (words : List ℕ) → (node_of words).count ≡ length words - 3
unfolding node_of
read_count words = refl

-- a spelling has the head's words and one for each argument
pub spelling_length : (n : Node) → length (spelling n) ≡ 3 + min n.count (length n.args)
spelling_length n =
    length-append (head_words n.head) (map (λ (t : TermId). t.0) (take n.count n.args))
    ∙ omega (arith, ap length (head_three n.head), length_numbers (take n.count n.args), length-take n.count n.args)
