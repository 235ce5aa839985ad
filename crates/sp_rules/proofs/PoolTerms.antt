-- The terms of a pool are few, with few arguments.
use Rattle.std.proofs.Common.{ℕ, ◌<◌, ◌≤◌, ◌⊎◌, ⊎_elim, Bool, List, length, sym, subst, arith}
use Rattle.std.proofs.lemmas.Option.{slice_get-get_or, slice_get_within}
use Rattle.std.proofs.lemmas.List.{get_or_past}
use Rattle.sp_lattice.specs.Order.{Order}
use Rattle.sp_pool.specs.declared.node.Node.{Node}
use Rattle.sp_pool.specs.Nodes.{IsPool}
use Rattle.sp_rules.specs.Terms.{Terms, AreSmall, blank, node_at}

module _ (pool : List Node) (is : IsPool pool) (levels : List Bool) (lattice : Order) where
  abbrev terms : Terms
  terms = record { nodes = pool; levels = levels; lattice = lattice }

  few_at : (i : ℕ) → (node_at terms i).count ≤ 8
  few_at i = ⊎_elim inside outside (split i (length pool))
    where
      split : (i n : ℕ) → (i < n) ⊎ (n ≤ i)
      split i n = grind arith

      inside : i < length pool → (node_at terms i).count ≤ 8
      inside l = (is.ordered i (node_at terms i) (slice_get-get_or pool i blank l)).few

      outside : length pool ≤ i → (node_at terms i).count ≤ 8
      outside l = subst (λ (n : Node). n.count ≤ 8) (sym (get_or_past pool i blank l)) (omega arith)

  pub pool_small : AreSmall terms
  pool_small = record { two = slice_get_within pool 1 _ is.false_second; few = is.few; few_arguments = few_at }
