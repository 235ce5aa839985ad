use Rattle.std.proofs.Common.{◌≡◌, ◌≤◌, sym, ◌∙◌, ap, subst, [], length}
use Rattle.std.specs.Prelude.{map}
use Rattle.std.specs.List.{All, flat_map}
use Rattle.sp_text.specs.Violations.{first}
use Rattle.sp_core.specs.Instances.{IsInstanceOf}
use Rattle.sp_instance.specs.Words.{AreFew, words_of}
use Rattle.sp_instance.specs.Heads.{names_in}
use Rattle.sp_instance.specs.Tables.{param_broken, param_table, table_head}
use Rattle.sp_instance.specs.Instances.{front_broken, instance_broken, members_in, tables_broken, tables_named, words_in}
use Rattle.sp_instance.proofs.Judged.{behind_nothing, nothing, refused}
use Rattle.sp_instance.proofs.Made.{few, made, members_few}
use Rattle.sp_instance.proofs.Seen.{both_none}
use Rattle.sp_instance.proofs.instance.finish.Goals as goal

pub new-requires : goal.new-requires
new-requires c =
    let p = c.args.spec.now in
    let t = c.args.t.now in
    let wf = c.params-declared.ensures.well_formed in
    rw c.deref.ensures.value (subst (λ z. AreFew (words_of p z)) (sym c.requires.members) (few p wf (members_in p t) (members_few p wf t c.requires.front)))

pub all_tables-requires : goal.all_tables-requires
all_tables-requires c =
    let wf = c.params-declared.ensures.well_formed in
    record {
      few = subst (All (λ q. length q.formals ≤ 8)) (sym c.params-declared.ensures.value) (λ k d lt. (wf.params k d lt).formals.few);
      names = c.requires.names ∙ ap (λ ts. names_in (map table_head ts)) (sym c.items-texts.ensures);
    }

pub assemble-requires : goal.assemble-requires
assemble-requires c =
    let p = c.args.spec.now in
    let t = c.args.t.now in
    let m : map (λ names. names.items) c.deref.result.now ≡ members_in p t = rw c.deref.ensures.value c.requires.members in
    let w = c.in_ok-words.ensures ∙ ap (words_of p) m in
    let back = c.in_ok-made.ensures.found ∙ (λ i. first (flat_map (param_broken (w i) (c.items-texts.ensures i)) (c.params-declared.ensures.value i))) in
    let told : c.earlier-first.result ≡ first (tables_broken p t) = c.earlier-first.ensures (tables_named p t) (flat_map (param_broken (words_in p t) t.tables) p.params) c.requires.named back in
    let each = both_none (tables_named p t) (flat_map (param_broken (words_in p t) t.tables) p.params) _ _ _ c.requires.named back told c.in-None.is in
    let same = c.in_ok-made.ensures.made each.1 ∙ (λ i. map (param_table (w i) (c.items-texts.ensures i)) (c.params-declared.ensures.value i)) in
    let none : instance_broken p t ≡ [] = behind_nothing (front_broken p t) (tables_broken p t) c.requires.front ∙ nothing (tables_broken p t) (sym told ∙ c.in-None.is) in
    subst (IsInstanceOf p) (sym (λ i. record { members = c.requires.members i; tables = same i })) (made p c.params-declared.ensures.well_formed t none)

pub returns-in-None : goal.returns-in-None
returns-in-None c =
    let p = c.args.spec.now in
    let t = c.args.t.now in
    let m : map (λ names. names.items) c.deref.result.now ≡ members_in p t = rw c.deref.ensures.value c.requires.members in
    let w = c.in_ok-words.ensures ∙ ap (words_of p) m in
    let back = c.in_ok-made.ensures.found ∙ (λ i. first (flat_map (param_broken (w i) (c.items-texts.ensures i)) (c.params-declared.ensures.value i))) in
    let told : c.earlier-first.result ≡ first (tables_broken p t) = c.earlier-first.ensures (tables_named p t) (flat_map (param_broken (words_in p t) t.tables) p.params) c.requires.named back in
    let each = both_none (tables_named p t) (flat_map (param_broken (words_in p t) t.tables) p.params) _ _ _ c.requires.named back told c.in-None.is in
    let same = c.in_ok-made.ensures.made each.1 ∙ (λ i. map (param_table (w i) (c.items-texts.ensures i)) (c.params-declared.ensures.value i)) in
    let none : instance_broken p t ≡ [] = behind_nothing (front_broken p t) (tables_broken p t) c.requires.front ∙ nothing (tables_broken p t) (sym told ∙ c.in-None.is) in
    let is = c.assemble.ensures ∙ (λ i. record { members = c.requires.members i; tables = same i }) in
    record {
      judges = (none, is);
      instance = subst (IsInstanceOf p) (sym is) (made p c.params-declared.ensures.well_formed t none);
    }

pub returns-in-Some : goal.returns-in-Some
returns-in-Some c =
    let p = c.args.spec.now in
    let t = c.args.t.now in
    let m : map (λ names. names.items) c.deref.result.now ≡ members_in p t = rw c.deref.ensures.value c.requires.members in
    let w = c.in_ok-words.ensures ∙ ap (words_of p) m in
    let back = c.in_ok-made.ensures.found ∙ (λ i. first (flat_map (param_broken (w i) (c.items-texts.ensures i)) (c.params-declared.ensures.value i))) in
    let told : c.earlier-first.result ≡ first (tables_broken p t) = c.earlier-first.ensures (tables_named p t) (flat_map (param_broken (words_in p t) t.tables) p.params) c.requires.named back in
    record {
      judges = refused (instance_broken p t) c.in-Some.found c.from.result (ap first (behind_nothing (front_broken p t) (tables_broken p t) c.requires.front) ∙ sym told ∙ c.in-Some.is) c.from.ensures;
      instance = tt;
    }
