-- Trees stand for one specification at most.
use Rattle.std.proofs.Common.{◌≡◌, sym, ◌∙◌, subst, ℕ, List}
use Rattle.sp_lattice.specs.Order.{IsLatticeOrder}
use Rattle.sp_lattice.proofs.OrderLaws.{one_order}
use Rattle.sp_tree.specs.declared.interface.InterfaceTree.{InterfaceTree}
use Rattle.sp_tree.specs.declared.module.Module.{Module}
use Rattle.sp_core.specs.Parts.{Parts}
use Rattle.sp_scopes.specs.declared.scopes.Scopes.{Scopes}
use Rattle.sp_scopes.specs.Scopes.{scopes_of}
use Rattle.sp_elaborate.specs.Views.{view}
use Rattle.sp_order.specs.Orders.{IsLower, KeepsLattice, level_count}
use Rattle.sp_order.proofs.Ends.{kept, one_bottom, one_top}
use Rattle.sp_specification.specs.Ends.{whole_view}
use Rattle.sp_specification.specs.Meaning.{IsMeant, assertion_texts, function_texts}
use Rattle.sp_one_spec.specs.Laws.{OneAnswerLaw, OneSpecLaw}
use Rattle.sp_one_spec.proofs.Functions.{one_assertions, one_functions}

-- between the same ends
one_meaning : (s : Scopes) (bottom top : ℕ) (i : InterfaceTree) (ms : List Module) (p q : Parts) →
    IsMeant s bottom top i ms p → IsMeant s bottom top i ms q → IsLatticeOrder p.lattice → IsLatticeOrder q.lattice → p ≡ q
one_meaning s bottom top i ms p q h k l m =
    let names : p.name ≡ q.name = h.name ∙ sym k.name in
    let lattices : p.lattice ≡ q.lattice = one_order (IsLower s.order) (level_count s) p.lattice q.lattice l.square m.square h.lattice k.lattice in
    let levels : p.level_names ≡ q.level_names = h.level_names ∙ sym k.level_names in
    let types : p.types ≡ q.types = h.types ∙ sym k.types in
    let params : p.params ≡ q.params = h.params ∙ sym k.params in
    let assertions : p.assertions ≡ q.assertions = one_assertions (λ n. view s n bottom top) (assertion_texts ms) p.assertions q.assertions h.assertions k.assertions in
    let functions : p.functions ≡ q.functions =
    one_functions (λ n. view s n bottom top) (whole_view s bottom top) i.levels 0 (function_texts ms) p.functions q.functions h.functions k.functions in
    λ j. record {
      name = names j;
      lattice = lattices j;
      level_names = levels j;
      types = types j;
      params = params j;
      assertions = assertions j;
      functions = functions j;
    }

-- a lattice has one least and one greatest level
pub one_spec : OneSpecLaw
one_spec i ms p q h k l m =
    let s = scopes_of i ms in
    let keeps : KeepsLattice s = kept (level_count s) (IsLower s.order) p.lattice h.meant.lattice l in
    let low : k.bottom ≡ h.bottom = one_bottom s k.bottom k.top h.bottom h.top keeps k.ends h.ends in
    let high : k.top ≡ h.top = one_top s k.bottom k.top h.bottom h.top keeps k.ends h.ends in
    let meant = subst (λ b. IsMeant s b h.top i ms q) low (subst (λ t. IsMeant s k.bottom t i ms q) high k.meant) in
    one_meaning s h.bottom h.top i ms p q h.meant meant l m

pub one_answer : OneAnswerLaw
one_answer i ms r t h k =
    let specs : r.0 ≡ t.0 = one_spec i ms r.0 t.0 h.spec k.spec h.lattice k.lattice in
    let scopes : r.1 ≡ t.1 = h.scopes ∙ sym k.scopes in
    λ j. (specs j, scopes j)
