-- With one more budget of depth a reader reads what it read, and refuses the line that didn't fit.
use Rattle.std.proofs.Common.{◌≡◌, ℕ, zero, suc, ◌+◌, List, [], ◌∷◌, length, Ok, Err, refl, sym, ap, subst, arith}
use Rattle.sp_text.specs.declared.fault.Malformed.{Malformed}
use Rattle.sp_text.specs.declared.fault.TextFault.TheVariants as fault
use Rattle.sp_cert.specs.declared.line.NodeLine.{NodeLine}
use Rattle.sp_cert.specs.declared.line.NodeLine.TheVariants as node
use Rattle.sp_rules.specs.declared.fact.Step.{Step}
use Rattle.sp_cert.specs.Tree as plain
use Rattle.sp_cert.specs.Tree.{Tree, File, Split}
use Rattle.sp_cert.specs.Within.{AreTrees}
use Rattle.sp_cert.specs.Fields.{format_of, node_of}
use Rattle.sp_cert.specs.Input.{Input, Outcome, Reader, and_then, one}
use Rattle.sp_cert.specs.Reader.{leaf, split, below, tree_within, formula, formula_is, formulas, until_end, file, file_with, front, steps, below_none}
use Rattle.sp_cert.proofs.Forms.{wider}

abbrev pub Grows : {A : Type 0} → Outcome A → Outcome A → Type 0
Grows (Ok p) o = o ≡ Ok p
Grows (Err (fault.Malformed m)) o = o ≡ Err (fault.Malformed m)
Grows (Err (fault.Limit l)) o = Unit {0}
Grows (Err fault.Memory) o = Unit {0}

grows_same : {A : Type 0} (o : Outcome A) → Grows o o
grows_same (Ok p) = refl
grows_same (Err (fault.Malformed m)) = refl
grows_same (Err (fault.Limit l)) = tt
grows_same (Err fault.Memory) = tt

grows_then : {A B : Type 0} (o u : Outcome A) (g h : A → Reader B) → Grows o u → ((a : A) (j : Input) → Grows (g a j) (h a j)) → Grows (and_then o g) (and_then u h)
grows_then (Ok p) u g h e f = subst (Grows (g p.0 p.1)) (sym (ap (λ x. and_then x h) e)) (f p.0 p.1)
grows_then (Err (fault.Malformed m)) u g h e f = ap (λ x. and_then x h) e
grows_then (Err (fault.Limit l)) u g h e f = tt
grows_then (Err fault.Memory) u g h e f = tt

abbrev ok_under : List Step → Tree → Reader Tree
ok_under ss t m = Ok (plain.Steps ss t, m)

abbrev ok_split : ℕ → Tree → Tree → Reader Tree
ok_split a t f m = Ok (Split a t f, m)

below_grows : (r s : Reader Tree) → ((i : Input) → Grows (r i) (s i)) → (x : NodeLine) (j : Input) → Grows (below r x j) (below s x j)
unfolding split front
below_grows r s h (node.Split a) j =
    grows_then (r j) (s j) (λ t k. and_then (r k) (ok_split a t)) (λ t k. and_then (s k) (ok_split a t)) (h j) (λ t k. grows_then (r k) (s k) (ok_split a t) (ok_split a t) (h k) (λ f m. refl))
below_grows r s h (node.Leaf k) j = grows_same (leaf k j)
below_grows r s h (node.Steps k) j =
    grows_then (steps k j) (steps k j) (λ ss m. and_then (r m) (ok_under ss)) (λ ss m. and_then (s m) (ok_under ss)) (grows_same (steps k j)) (λ ss m. grows_then (r m) (s m) (ok_under ss) (ok_under ss) (h m) (λ t n. refl))

none_grows : (i : Input) (s : Reader Tree) (x : NodeLine) (j : Input) → Grows (below_none i x j) (below s x j)
none_grows i s (node.Split a) j = tt
none_grows i s (node.Leaf k) j = grows_same (leaf k j)
none_grows i s (node.Steps k) j = tt

pub tree_grows : (v b : ℕ) (i : Input) → Grows (tree_within v b i) (tree_within v (suc b) i)
unfolding tree_within
tree_grows v zero i = grows_then (one (node_of v) i) (one (node_of v) i) (below_none i) (below (tree_within v zero)) (grows_same (one (node_of v) i)) (none_grows i (tree_within v zero))
tree_grows v (suc b) i = grows_then (one (node_of v) i) (one (node_of v) i) (below (tree_within v b)) (below (tree_within v (suc b))) (grows_same (one (node_of v) i)) (below_grows (tree_within v b) (tree_within v (suc b)) (tree_grows v b))

end_grows : {A : Type 0} (l : List ℕ) (o u : Outcome (List A)) (i : Input) → Grows o u → Grows (until_end l o i) (until_end l u i)
end_grows [] o u i h = refl
end_grows (b ∷ l) o u i h = h

abbrev ok_more : Tree → List Tree → Reader (List Tree)
ok_more t ts x = Ok (t ∷ ts, x)

formulas_grow : (v b m n : ℕ) (i : Input) → Grows (formulas v b m n i) (formulas v (suc b) m n i)
unfolding formulas formula
formulas_grow v b zero n i = refl
formulas_grow v b (suc m) n i =
    end_grows i.rest (and_then (formula v b n i) (λ t k. and_then (formulas v b m (n + 1) k) (ok_more t))) (and_then (formula v (suc b) n i) (λ t k. and_then (formulas v (suc b) m (n + 1) k) (ok_more t))) i
    (grows_then (formula v b n i) (formula v (suc b) n i) (λ t k. and_then (formulas v b m (n + 1) k) (ok_more t)) (λ t k. and_then (formulas v (suc b) m (n + 1) k) (ok_more t))
    (grows_then (one (formula_is n) i) (one (formula_is n) i) (λ u j. tree_within v b j) (λ u j. tree_within v (suc b) j) (grows_same (one (formula_is n) i)) (λ u j. tree_grows v b j))
    (λ t k. grows_then (formulas v b m (n + 1) k) (formulas v (suc b) m (n + 1) k) (ok_more t) (ok_more t) (formulas_grow v b m (n + 1) k) (λ ts x. refl)))

abbrev ok_file : ℕ → List Tree → Reader File
ok_file v ts x = Ok (file_with v ts, x)

file_grows : (b : ℕ) (i : Input) → Grows (file b i) (file (suc b) i)
unfolding file
file_grows b i =
    grows_then (one format_of i) (one format_of i) (λ v j. and_then (formulas v b (length j.rest) 1 j) (ok_file v)) (λ v j. and_then (formulas v (suc b) (length j.rest) 1 j) (ok_file v)) (grows_same (one format_of i))
    (λ v j. grows_then (formulas v b (length j.rest) 1 j) (formulas v (suc b) (length j.rest) 1 j) (ok_file v) (ok_file v) (formulas_grow v b (length j.rest) 1 j) (λ ts x. refl))

-- so many more
abbrev pub plus : ℕ → ℕ → ℕ
plus zero d = d
plus (suc c) d = suc (plus c d)

plus_is : (c d : ℕ) → plus c d ≡ c + d
plus_is zero d = omega arith
plus_is (suc c) d = omega (arith, plus_is c d)

pub plus_both : (c d : ℕ) → plus c d ≡ plus d c
plus_both c d = omega (arith, plus_is c d, plus_is d c)

abbrev bad : Malformed → Outcome File
bad m = Err (fault.Malformed m)

-- a line that doesn't fit doesn't fit at any greater depth
pub still_bad : (c b : ℕ) (i : Input) (m : Malformed) → file b i ≡ bad m → file (plus c b) i ≡ bad m
still_bad zero b i m h = h
still_bad (suc c) b i m h = subst (λ o. Grows o (file (suc (plus c b)) i)) (still_bad c b i m h) (file_grows (plus c b) i)

wider_all : (v b n : ℕ) (ts : List Tree) → AreTrees v b n ts → AreTrees v (suc b) n ts
wider_all v b n [] g = tt
wider_all v b n (t ∷ ts) g = (g.0, wider v b t g.1, wider_all v b (n + 1) ts g.2)

pub wide : (v c b n : ℕ) (ts : List Tree) → AreTrees v b n ts → AreTrees v (plus c b) n ts
wide v zero b n ts g = g
wide v (suc c) b n ts g = wider_all v (plus c b) n ts (wide v c b n ts g)
