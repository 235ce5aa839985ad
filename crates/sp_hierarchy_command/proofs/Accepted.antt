-- What an answer means, from the chain of the work: by which answers it came, and what follows where those accept.
use Rattle.std.proofs.Common.{◌≡◌, ◌∙◌, ℕ, zero, suc, Bool, true, false, List, [], ◌∷◌, ◌++◌, Some, Result, Ok, Err, ap, refl, slice_get, subst, sym}
use Rattle.std.specs.List.{All}
use Rattle.std.proofs.lemmas.Bool.{and_parts}
use Rattle.std.proofs.lemmas.List.Folds.{list_all-append}
use Rattle.std.proofs.lemmas.Option.{same_Some}
use Rattle.sp_outside.specs.Files.{Files}
use Rattle.sp_core.specs.declared.mapping.Mapping.{Mapping}
use Rattle.sp_core.specs.Mappings.{IsMappingTo}
use Rattle.sp_core.specs.Parts.{Parts}
use Rattle.sp_core.specs.WellFormed.{IsWellFormed}
use Rattle.sp_formulas.specs.Limits.{first_fault}
use Rattle.sp_map_formulas.specs.Rows.{map_formulas}
use Rattle.sp_map_laws.specs.Laws.{ClosedViewsLaw}
use Rattle.sp_instance.proofs.Made.{made}
use Rattle.sp_frame.specs.declared.refusal.Refusal.{Refusal}
use Rattle.sp_frame.specs.declared.refusal.Verdict.{Verdict}
use Rattle.sp_frame.specs.declared.refusal.Verdict.TheVariants as verdict
use Rattle.sp_frame.specs.Endings.{certified, printed, verdict_of}
use Rattle.sp_frame.specs.Steps.{Each, Gives, Onward, Then}
use Rattle.sp_frame.specs.Uncertified.{Lines}
use Rattle.sp_formula_list.proofs.Given.{listing_is}
use Rattle.sp_deciding.specs.Decided.{open_count}
use Rattle.sp_deciding.specs.Laws.{IsClosed}
use Rattle.sp_deciding.specs.Verdicts.{verdict_by}
use Rattle.sp_deciding.proofs.Closed.{all_closed}
use Rattle.sp_sorts.specs.Sorts.{interface_file}
use Rattle.sp_system.specs.System.{SystemJudged, SystemRead}
use Rattle.sp_system.specs.declared.system.System.{System}
use Rattle.sp_check_command.specs.Check.{CheckAnswered}
use Rattle.sp_check_command.specs.Secure.{AnsweredAreProved, IsProved}
use Rattle.sp_check_command.proofs.Accepted.{judged_by}
use Rattle.sp_hierarchy_rows.specs.Names.{interface_names}
use Rattle.sp_hierarchy.specs.Judged.{HierarchyJudged, IsMappedTo, MappingJudged, MemberJudged}
use Rattle.sp_hierarchy.specs.Texts.{HierarchyRead, NamedRead, SystemsRead}
use Rattle.sp_hierarchy.specs.declared.judging.Hierarchy.{Hierarchy}
use Rattle.sp_hierarchy.specs.declared.mappings.Mapped.{Mapped}
use Rattle.sp_hierarchy.specs.declared.members.Member.{Member}
use Rattle.sp_hierarchy.specs.declared.texts.HierarchyTexts.{HierarchyTexts}
use Rattle.sp_hierarchy.specs.declared.texts.NamedSystem.{NamedSystem}
use Rattle.sp_hierarchy.specs.declared.texts.RowMapping.{RowMapping}
use Rattle.sp_hierarchy.proofs.Meant.{made_to}
use Rattle.sp_hierarchy.proofs.Named.{formed_of}
use Rattle.sp_hierarchy.proofs.Places.{each_at, each_from, each_there}
use Rattle.sp_hierarchy_command.specs.Hierarchy.{AnsweredOver, HierarchyAnswered, HierarchyDone, HierarchyWork, MappedAnswered, MappingAnswered, MemberAnswered, all_accept, is_accepting, mapping_line, owned_answer, whole_answer, whole_verdict}
use Rattle.sp_hierarchy_command.specs.Secure.{AcceptedHierarchiesAreSecure, AcceptedMappingsHide, AcceptedMembersAreSecure, Accepts, AnswersCome, CameTo, IsSecureHierarchy, IsSecureMember, MappedAccepted, MemberAccepted}

-- ---- by which answers an answer came

module _ (file : List ℕ) (files : Files) (answer : Lines) where
  by_mappings : (x : HierarchyTexts) (h : Hierarchy) (as' : List Lines) → HierarchyRead file files (Ok x) → HierarchyJudged file x (Ok h) → Each MemberAnswered h.members (Ok as') → (third : Result (List Lines) Refusal)
      → Each (MappedAnswered h.members) h.mappings third → Onward (λ bs out. out ≡ Ok (whole_answer (as' ++ bs))) third (Ok answer) → CameTo file files answer
  by_mappings x h as' read judged members (Err r) mapped e = absurd cc
  by_mappings x h as' read judged members (Ok bs) mapped e = record {
    texts = x;
    hierarchy = h;
    interfaces = as';
    mappings = bs;
    read = read;
    judged = judged;
    interfaces_answered = members;
    mappings_answered = mapped;
    whole = cc;
  }

  by_members : (x : HierarchyTexts) (h : Hierarchy) → HierarchyRead file files (Ok x) → HierarchyJudged file x (Ok h) → (second : Result (List Lines) Refusal) → Each MemberAnswered h.members second
      → Onward (λ as'. Then (Each (MappedAnswered h.members) h.mappings) (λ bs. Gives (whole_answer (as' ++ bs)))) second (Ok answer) → CameTo file files answer
  by_members x h read judged (Err r) members e = absurd cc
  by_members x h read judged (Ok as') members e = by_mappings x h as' read judged members e.0 e.1 e.2

  by_judged : (x : HierarchyTexts) → HierarchyRead file files (Ok x) → (first : Result Hierarchy Refusal) → HierarchyJudged file x first → Onward HierarchyAnswered first (Ok answer) → CameTo file files answer
  by_judged x read (Err r) judged e = absurd cc
  by_judged x read (Ok h) judged e = by_members x h read judged e.0 e.1 e.2

  by_texts : (first : Result HierarchyTexts Refusal) → HierarchyRead file files first → Onward (HierarchyWork file) first (Ok answer) → CameTo file files answer
  by_texts (Err r) read e = absurd cc
  by_texts (Ok x) read e = by_judged x read e.0 e.1 e.2

pub came_to : AnswersCome
unfolding HierarchyDone
came_to file files answer h = by_texts file files answer h.0 h.1 h.2

-- ---- what is read and judged

judged_parts : (file : List ℕ) (x : HierarchyTexts) (h : Hierarchy) → HierarchyJudged file x (Ok h) → Each MemberJudged x.interfaces (Ok h.members) × Each (MappingJudged h.members) x.mappings (Ok h.mappings)
judged_parts file x h (Err r, first, rest) = absurd cc
judged_parts file x h (Ok u, first, (Err r, second, rest)) = absurd cc
judged_parts file x h (Ok u, first, (Ok ms, second, (Err r, third, rest))) = absurd cc
judged_parts file x h (Ok u, first, (Ok ms, second, (Ok ks, third, rest))) =
    let is : h ≡ record { members = ms; mappings = ks } = cc in
    subst (λ (y : Hierarchy). Each MemberJudged x.interfaces (Ok y.members) × Each (MappingJudged y.members) x.mappings (Ok y.mappings)) (sym is) (second, third)

member_of : (m : Member) (s : NamedSystem) → MemberJudged s (Ok m) → (s.name ≡ m.name) × SystemJudged (interface_file s.name) s.system (Ok m.elaborated)
member_of m s (Err r, first, rest) = absurd cc
member_of m s (Ok u, first, (Err r, second, rest)) = absurd cc
member_of m s (Ok u, first, (Ok e, second, rest)) =
    let is : m ≡ record { name = s.name; elaborated = e } = cc in
    (sym (ap (λ (y : Member). y.name) is), subst (λ (y : Member). SystemJudged (interface_file s.name) s.system (Ok y.elaborated)) (sym is) second)

mapped_to : (ms : List Member) (r : RowMapping) (k : Mapped) → MappingJudged ms r (Ok k) → IsMappedTo ms k
mapped_to ms r k (Err e, first, rest) = absurd cc
mapped_to ms r k (Ok a, first, (Err e, second, rest)) = absurd cc
mapped_to ms r k (Ok a, first, (Ok u, second, (Err e, third, rest))) = absurd cc
mapped_to ms r k (Ok a, first, (Ok u, second, (Ok l, third, (Err e, fourth, rest)))) = absurd cc
mapped_to ms r k (Ok a, first, (Ok u, second, (Ok l, third, (Ok m, fourth, rest)))) =
    let is : k ≡ record { lower = l; mapping = m } = cc in
    subst (IsMappedTo ms) (sym is) (made_to ms r u l m fourth)

module _ (files : Files) where
  system_of : (name : List ℕ) (s : NamedSystem) → NamedRead name files (Ok s) → SystemRead (interface_file s.name) files (Ok s.system)
  system_of name s (Err r, first, rest) = absurd cc
  system_of name s (Ok y, first, rest) =
      let is : s ≡ record { name = name; system = y } = cc in
      subst (λ (z : NamedSystem). SystemRead (interface_file z.name) files (Ok z.system)) (sym is) first

  systems_at : (names : List (List ℕ)) (xs : List NamedSystem) (k : ℕ) (s : NamedSystem) → SystemsRead names files (Ok xs) → slice_get xs k ≡ Some s → SystemRead (interface_file s.name) files (Ok s.system)
  unfolding SystemsRead
  systems_at names xs k s read e = let from = each_from (λ name. NamedRead name files) names xs k s read e in system_of from.0 s from.2

  read_at : (file : List ℕ) (x : HierarchyTexts) (k : ℕ) (s : NamedSystem) → HierarchyRead file files (Ok x) → slice_get x.interfaces k ≡ Some s → SystemRead (interface_file s.name) files (Ok s.system)
  read_at file x k s (Err r, first, rest) e = absurd cc
  read_at file x k s (Ok h, first, (Err r, second, rest)) e = absurd cc
  read_at file x k s (Ok h, first, (Ok xs, second, (Err r, third, rest))) e = absurd cc
  read_at file x k s (Ok h, first, (Ok xs, second, (Ok ms, third, rest))) e =
      let is : x ≡ record { hierarchy = h; interfaces = xs; mappings = ms } = cc in
      systems_at (interface_names h.rows) xs k s second (sym (ap (λ (y : HierarchyTexts). slice_get y.interfaces k) is) ∙ e)

  -- an interface of the hierarchy, as the files hold it
  record IsHeld (m : Member) : Type 0 where
    system : System
    read : SystemRead (interface_file m.name) files (Ok system)
    judged : SystemJudged (interface_file m.name) system (Ok m.elaborated)

  module _ (file : List ℕ) (x : HierarchyTexts) (h : Hierarchy) (read : HierarchyRead file files (Ok x)) (judged : HierarchyJudged file x (Ok h)) where
    held_at : (k : ℕ) (m : Member) → slice_get h.members k ≡ Some m → IsHeld m
    held_at k m e =
        let from = each_from MemberJudged x.interfaces h.members k m (judged_parts file x h judged).0 e in
        let own = member_of m from.0 from.2 in
        record {
          system = from.0.system;
          read = subst (λ n. SystemRead (interface_file n) files (Ok from.0.system)) own.0 (read_at file x k from.0 read from.1);
          judged = subst (λ n. SystemJudged (interface_file n) from.0.system (Ok m.elaborated)) own.0 own.1;
        }

    mapped_at : (k : ℕ) (m : Mapped) → slice_get h.mappings k ≡ Some m → IsMappedTo h.members m
    mapped_at k m e =
        let from = each_from (MappingJudged h.members) x.mappings h.mappings k m (judged_parts file x h judged).1 e in
        mapped_to h.members from.0 m from.2

  -- ---- what follows where parts accept

  formed : (m : Member) → IsHeld m → IsWellFormed m.elaborated.spec
  formed m held = formed_of (interface_file m.name) held.system m.elaborated held.judged

  secure_member : (m : Member) → IsHeld m → IsProved m.elaborated.spec → IsSecureMember files m
  secure_member m held proved =
      let judged = judged_by (interface_file m.name) held.system m.elaborated held.judged.0 held.judged.1 held.judged.2 in
      record {
        interface = record {
          system = held.system;
          spec = m.elaborated.spec;
          read = held.read;
          meant = judged.meant;
          sample = made m.elaborated.spec judged.meant.well_formed held.system.sample judged.unbroken;
          admissible = judged.admissible;
          secure = proved.secure;
        };
        same = refl;
      }

none_open : (n : ℕ) → verdict_by n ≡ verdict.Ok → n ≡ 0
none_open zero e = refl
none_open (suc n) e = absurd cc

member_proved : AnsweredAreProved → (m : Member) → IsWellFormed m.elaborated.spec → (a : Lines) → MemberAnswered m (Ok a) → Accepts a → IsProved m.elaborated.spec
member_proved proves m wf (printed bytes v) h e = proves (Some m.name) m.elaborated.spec bytes wf (subst (λ w. CheckAnswered (Some m.name) m.elaborated.spec (Ok (printed bytes w))) e h)
member_proved proves m wf (certified c) h e = absurd c

mapping_closed : (p : Parts) (m : Mapping) (a : Lines) → MappingAnswered p m (Ok a) → Accepts a → All (IsClosed p) (map_formulas p m)
mapping_closed p m a (Err r, listed, rest) e = absurd cc
mapping_closed p m a (Ok os, listed, (Err r, decided, rest)) e = absurd cc
mapping_closed p m a (Ok os, listed, (Ok ds, decided, rest)) e =
    let same : a ≡ owned_answer (mapping_line m) p os ds = cc in
    let none = none_open (open_count ds) (sym (ap verdict_of same) ∙ e) in
    subst (All (IsClosed p)) (listing_is (Some m.name) (map_formulas p m) os (first_fault p 1 (map_formulas p m)) listed) (all_closed (Some m.name) p 1 os ds decided none)

module _ (proves : AnsweredAreProved) where
  pub members_secure : AcceptedMembersAreSecure
  members_secure file files answer came k m h =
      let held = held_at files file came.texts came.hierarchy came.read came.judged k m h.member in
      let own = each_at MemberAnswered came.hierarchy.members came.interfaces k m h.lines came.interfaces_answered h.member h.answered in
      secure_member files m held (member_proved proves m (formed files m held) h.lines own h.accepts)

  pub mappings_hide : ClosedViewsLaw → AcceptedMappingsHide
  mappings_hide views file files answer came k m lower h g =
      let ms = came.hierarchy.members in
      let p = lower.elaborated.spec in
      let held = held_at files file came.texts came.hierarchy came.read came.judged m.lower lower g.member in
      let wf = formed files lower held in
      let below = each_at MemberAnswered ms came.interfaces m.lower lower g.lines came.interfaces_answered g.member g.answered in
      let own = each_at (MappedAnswered ms) came.hierarchy.mappings came.mappings k m h.lines came.mappings_answered h.mapped h.answered in
      let over = subst (λ o. AnsweredOver m o (Ok h.lines)) g.member own in
      let to = mapped_at files file came.texts came.hierarchy came.read came.judged k m h.mapped in
      let same : to.0 ≡ lower = same_Some to.0 lower (sym to.1 ∙ g.member) in
      views p m.mapping wf (subst (λ (y : Member). IsMappingTo y.elaborated.spec m.mapping) same to.2) (member_proved proves lower wf g.lines below g.accepts).closed (mapping_closed p m.mapping h.lines over h.accepts)

-- ---- the whole accepts

is_accepted : (v : Verdict) → is_accepting v ≡ true → v ≡ verdict.Ok
is_accepted verdict.Ok e = refl
is_accepted verdict.Refused e = absurd cc
is_accepted verdict.Conflict e = absurd cc

whole_accepted : (b : Bool) → whole_verdict b ≡ verdict.Ok → b ≡ true
whole_accepted true e = refl
whole_accepted false e = absurd cc

each_accepts : (as' : List Lines) → all_accept as' ≡ true → (k : ℕ) (a : Lines) → slice_get as' k ≡ Some a → Accepts a
each_accepts [] h k a e = absurd cc
each_accepts (b ∷ bs) h zero a e =
    let same : b ≡ a = cc in
    is_accepted (verdict_of a) (ap (λ (x : Lines). is_accepting (verdict_of x)) (sym same) ∙ (and_parts _ _ h).0)
each_accepts (b ∷ bs) h (suc k) a e = each_accepts bs (and_parts _ _ h).1 k a e

module _ (proves : AnsweredAreProved) (views : ClosedViewsLaw) (file : List ℕ) (files : Files) (answer : Lines) (came : CameTo file files answer) (accepts : Accepts answer) where
  both : (all_accept came.interfaces ≡ true) × (all_accept came.mappings ≡ true)
  both =
      let all : all_accept (came.interfaces ++ came.mappings) ≡ true = whole_accepted (all_accept (came.interfaces ++ came.mappings)) (sym (ap verdict_of came.whole) ∙ accepts) in
      and_parts _ _ (sym (list_all-append (λ (a : Lines). is_accepting (verdict_of a)) came.interfaces came.mappings) ∙ all)

  member_accepted : (k : ℕ) (m : Member) → slice_get came.hierarchy.members k ≡ Some m → MemberAccepted file files answer came k m
  member_accepted k m e =
      let there = each_there MemberAnswered came.hierarchy.members came.interfaces k m came.interfaces_answered e in
      record { member = e; lines = there.0; answered = there.1; accepts = each_accepts came.interfaces both.0 k there.0 there.1 }

  mapped_accepted : (k : ℕ) (m : Mapped) → slice_get came.hierarchy.mappings k ≡ Some m → MappedAccepted file files answer came k m
  mapped_accepted k m e =
      let there = each_there (MappedAnswered came.hierarchy.members) came.hierarchy.mappings came.mappings k m came.mappings_answered e in
      record { mapped = e; lines = there.0; answered = there.1; accepts = each_accepts came.mappings both.1 k there.0 there.1 }

  whole_secure : IsSecureHierarchy file files
  whole_secure = record {
    texts = came.texts;
    hierarchy = came.hierarchy;
    read = came.read;
    judged = came.judged;
    interfaces = λ k m e. members_secure proves file files answer came k m (member_accepted k m e);
    mappings = λ k m e.
        let to = mapped_at files file came.texts came.hierarchy came.read came.judged k m e in
        (to.0, to.1, mappings_hide proves views file files answer came k m to.0 (mapped_accepted k m e) (member_accepted m.lower to.0 to.1));
  }

pub hierarchies_secure : AnsweredAreProved → ClosedViewsLaw → AcceptedHierarchiesAreSecure
hierarchies_secure proves views file files answer h accepts = whole_secure proves views file files answer (came_to file files answer h) accepts
