-- A specification that is put together from its parts.
use Rattle.std.proofs.Common.{◌≡◌, ℕ, List, map, subst, subst₂}
use Rattle.sp_lattice.specs.Order.{IsOrderOf}
use Rattle.sp_tree.specs.declared.interface.InterfaceTree.{InterfaceTree}
use Rattle.sp_tree.specs.declared.module.Module.{Module}
use Rattle.sp_core.specs.Parts.{Parts}
use Rattle.sp_scopes.specs.declared.scopes.Scopes.{Scopes}
use Rattle.sp_elaborate.specs.Views.{view}
use Rattle.sp_order.specs.Orders.{IsLower, level_count}
use Rattle.sp_specification.specs.Ends.{whole_view}
use Rattle.sp_specification.specs.Meaning.{AreAssertions, AreFunctions, IsMeant, assertion_texts, function_texts, param_of, type_info}

-- the parts are what the trees mean, where s tells of the names, and the ends of the lattice are told as numbers
pub made : (i : InterfaceTree) (ms : List Module) (s names : Scopes) (p : Parts) (b t bottom top : ℕ) → s ≡ names → b ≡ bottom → t ≡ top →
    p.name ≡ i.name.name → IsOrderOf (level_count s) (IsLower s.order) p.lattice → p.level_names ≡ s.levels → p.types ≡ map type_info s.types →
    p.params ≡ map param_of s.parameters → AreAssertions (λ k. view s k b t) (assertion_texts ms) p.assertions →
    AreFunctions (λ k. view s k b t) (whole_view s b t) i.levels 0 (function_texts ms) p.functions → IsMeant names bottom top i ms p
made i ms s names p b t bottom top es eb et n o l ts ps as' fs = subst (λ z. IsMeant z bottom top i ms p) es (subst₂ (λ x y. IsMeant s x y i ms p) eb et (record {
  name = n;
  lattice = o;
  level_names = l;
  types = ts;
  params = ps;
  assertions = as';
  functions = fs;
}))
