-- A tree's reader, by what its first line is.
use Rattle.std.proofs.Common.{◌≡◌, ℕ, zero, suc, ◌-◌, ◌<◌, Ok, Err, ap, ◌∙◌, arith}
use Rattle.sp_text.specs.declared.fault.TextFault.{TextFault}
use Rattle.sp_cert.specs.declared.line.NodeLine.TheVariants as node
use Rattle.sp_cert.specs.Fields.{node_of}
use Rattle.sp_cert.specs.Input.{Input, and_then, one, too_deep}
use Rattle.sp_cert.specs.Reader.{below, below_none, front, leaf, split, tree_within}

pub tree_bad : (v : ℕ) (b : ℕ) (i : Input) (e : TextFault) → one (node_of v) i ≡ Err e → tree_within v b i ≡ Err e
unfolding tree_within
tree_bad v zero i e h = ap (λ o. and_then o (below_none i)) h
tree_bad v (suc b) i e h = ap (λ o. and_then o (below (tree_within v b))) h

pub tree_deep : (v : ℕ) (i j : Input) (a : ℕ) → one (node_of v) i ≡ Ok (node.Split a, j) → tree_within v 0 i ≡ Err (too_deep i)
unfolding tree_within
tree_deep v i j a h = ap (λ o. and_then o (below_none i)) h

pub tree_split : (v : ℕ) (b : ℕ) (i j : Input) (a : ℕ) → 0 < b → one (node_of v) i ≡ Ok (node.Split a, j) → tree_within v b i ≡ split (tree_within v (b - 1)) a j
unfolding tree_within
tree_split v zero i j a some h = absurd (omega arith)
tree_split v (suc b) i j a some h =
    let back : b ≡ suc b - 1 = omega arith in
    ap (λ o. and_then o (below (tree_within v b))) h ∙ ap (λ k. split (tree_within v k) a j) back

pub tree_leaf : (v : ℕ) (b : ℕ) (i j : Input) (k : ℕ) → one (node_of v) i ≡ Ok (node.Leaf k, j) → tree_within v b i ≡ leaf k j
unfolding tree_within
tree_leaf v zero i j k h = ap (λ o. and_then o (below_none i)) h
tree_leaf v (suc b) i j k h = ap (λ o. and_then o (below (tree_within v b))) h

pub tree_more : (v : ℕ) (b : ℕ) (i j : Input) (a : ℕ) → one (node_of v) i ≡ Ok (node.Split a, j) → tree_within v (suc b) i ≡ split (tree_within v b) a j
unfolding tree_within
tree_more v b i j a h = ap (λ o. and_then o (below (tree_within v b))) h

pub tree_deep_steps : (v : ℕ) (i j : Input) (k : ℕ) → one (node_of v) i ≡ Ok (node.Steps k, j) → tree_within v 0 i ≡ Err (too_deep i)
unfolding tree_within
tree_deep_steps v i j k h = ap (λ o. and_then o (below_none i)) h

pub tree_front : (v : ℕ) (b : ℕ) (i j : Input) (k : ℕ) → 0 < b → one (node_of v) i ≡ Ok (node.Steps k, j) → tree_within v b i ≡ front (tree_within v (b - 1)) k j
unfolding tree_within
tree_front v zero i j k some h = absurd (omega arith)
tree_front v (suc b) i j k some h =
    let back : b ≡ suc b - 1 = omega arith in
    ap (λ o. and_then o (below (tree_within v b))) h ∙ ap (λ c. front (tree_within v c) k j) back

pub tree_front_more : (v : ℕ) (b : ℕ) (i j : Input) (k : ℕ) → one (node_of v) i ≡ Ok (node.Steps k, j) → tree_within v (suc b) i ≡ front (tree_within v b) k j
unfolding tree_within
tree_front_more v b i j k h = ap (λ o. and_then o (below (tree_within v b))) h
