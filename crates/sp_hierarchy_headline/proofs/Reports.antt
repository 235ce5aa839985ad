-- The report of `hierarchy` is made of blocks, and in the block of an interface or a mapping a line begins with ACCEPTED only where its answer accepts.
use Rattle.std.proofs.Common.{◌≡◌, inl, inr, ◌∙◌, ℕ, zero, suc, Bool, true, false, ◌==◌, List, [], ◌∷◌, ◌++◌, None, Some, Result, Ok, Err, ap, codes, length, refl, slice_get, sym, subst}
use Rattle.std.specs.List.{All}
use Rattle.sp_outside.specs.Files.{Files}
use Rattle.sp_core.specs.declared.mapping.Mapping.{Mapping}
use Rattle.sp_core.specs.Parts.{Parts}
use Rattle.sp_formulas.specs.Formulas.{Formula, formulas}
use Rattle.sp_formulas.specs.Limits.{first_fault}
use Rattle.sp_map_formulas.specs.Rows.{map_formulas}
use Rattle.sp_frame.specs.declared.refusal.Refusal.{Refusal}
use Rattle.sp_frame.specs.Endings.{verdict_of}
use Rattle.sp_frame.specs.Steps.{Onward}
use Rattle.sp_frame.specs.Uncertified.{Lines}
use Rattle.sp_formula_list.specs.Listed.{FormulasListed}
use Rattle.sp_formula_list.proofs.Given.{listing_is}
use Rattle.sp_deciding.specs.Decided.{AllDecided, open_count}
use Rattle.sp_deciding.specs.Verdicts.{all_lines, last_line, verdict_by}
use Rattle.sp_deciding.specs.declared.deciding.Decision.{Decision}
use Rattle.sp_sorts.specs.Sorts.{mapping_file, mappings}
use Rattle.sp_check_command.specs.Check.{check_answer}
use Rattle.sp_plain_names.proofs.Systems.{read_tree}
use Rattle.sp_hierarchy.specs.declared.mappings.Mapped.{Mapped}
use Rattle.sp_hierarchy.specs.declared.members.Member.{Member}
use Rattle.sp_hierarchy.proofs.Places.{each_from}
use Rattle.sp_hierarchy_command.specs.Hierarchy.{AnsweredOver, MapFormulasListed, MappedAnswered, MappingAnswered, MemberAnswered, all_accept, mapping_line, owned_answer, text_of, texts_of, whole_line}
use Rattle.sp_hierarchy_command.specs.Secure.{Accepts, CameTo, MappedAccepted, MemberAccepted}
use Rattle.sp_headline.proofs.Expressions.{plain_free}
use Rattle.sp_headline.proofs.Named.{IsNamed, formulas_named}
use Rattle.sp_headline.proofs.Texts.{Free, append_assoc, ends_with, free_append}
use Rattle.sp_hierarchy_headline.specs.Blocks.{interface_heading, mapping_heading}
use Rattle.sp_hierarchy_headline.proofs.Blocks.{IsSound, sound_alone, sound_append, sound_block, sound_inner, sound_line, sound_nothing}
use Rattle.sp_hierarchy_headline.proofs.Decisions.{accepted_line, all_inner, refused_inner}
use Rattle.sp_hierarchy_headline.proofs.Inner.{InInnerLines, inner_line}
use Rattle.sp_hierarchy_headline.proofs.Known.{AreJudged, AreTexts, HasRow, IsKnown, known_at, mapping_at, names_plain, spec_name, texts_judged, texts_read}
use Rattle.sp_hierarchy_headline.proofs.Lines.{IsHeading}
use Rattle.sp_hierarchy_headline.proofs.Rows.{IsPlainMapping, map_formulas_named, mapping_plain}

-- ---- a block

module _ (Claim : List ℕ → Type 0) (h : List ℕ) where
  last_sound : (m n : ℕ) → (n ≡ 0 → Claim h) → IsSound Claim (Some h) (last_line m n)
  last_sound m zero c = let l = accepted_line m in subst (IsSound Claim (Some h)) (sym l.is) (sound_line Claim h l.line l.free l.heading (c refl))
  last_sound m (suc k) c = sound_alone Claim (Some h) (last_line m (suc k)) (refused_inner m k)

  block_sound : (all : List ℕ) (m n : ℕ) → Free h → IsHeading h → InInnerLines all → (n ≡ 0 → Claim h) → IsSound Claim None (h ++ codes "\n" ++ all ++ last_line m n)
  block_sound all m n free is inner c =
      let parts = append_assoc (h ++ codes "\n") all (last_line m n) ∙ append_assoc h (codes "\n") (all ++ last_line m n) in
      subst (IsSound Claim None) (sym parts) (sound_block Claim None h (all ++ last_line m n) free is (sound_inner Claim (Some h) all (last_line m n) inner (last_sound m n c)))

-- ---- headings

same_interface : (x y : List ℕ) → interface_heading x ≡ interface_heading y → x ≡ y
same_interface x y e = cc

same_mapping : (x y : List ℕ) → mapping_heading x ≡ mapping_heading y → x ≡ y
same_mapping x y e = cc

-- whether the text begins with the letter I
abbrev starts_interface : List ℕ → Bool
starts_interface [] = false
starts_interface (b ∷ t) = b == 73

headings_apart : (x y : List ℕ) → interface_heading x ≡ mapping_heading y → ⊥
headings_apart x y e = by (ap starts_interface e)
  where
    by : true ≡ false → ⊥
    by f = absurd cc

pub interface_is : (x : List ℕ) → IsHeading (interface_heading x)
interface_is x = inl (32 ∷ x, refl)

pub mapping_is : (x : List ℕ) → IsHeading (mapping_heading x)
mapping_is x = inr (32 ∷ x, refl)

-- ---- a report

module _ (file : List ℕ) (files : Files) (answer : Lines) (came : CameTo file files answer) where
  -- an interface of this name accepts
  pub record InterfaceAccepted (name : List ℕ) : Type 0 where
    pub place : ℕ
    pub member : Member
    pub accepted : MemberAccepted file files answer came place member
    pub known : IsKnown files member
    pub named : member.name ≡ name

  -- a mapping of this name accepts
  pub record MappingAccepted (name : List ℕ) : Type 0 where
    pub place : ℕ
    pub mapped : Mapped
    pub accepted : MappedAccepted file files answer came place mapped
    pub has : HasRow files came.texts came.hierarchy place mapped
    pub named : has.row.2.name ≡ name

  pub record Claim (h : List ℕ) : Type 0 where
    pub interface : (name : List ℕ) → h ≡ interface_heading name → InterfaceAccepted name
    pub mapping : (name : List ℕ) → h ≡ mapping_heading name → MappingAccepted name

  abbrev Sound : List ℕ → Type 0
  Sound text = IsSound Claim None text

  texts : AreTexts file files came.texts
  texts = texts_read file files came.texts came.read

  judged : AreJudged came.texts came.hierarchy
  judged = texts_judged file came.texts came.hierarchy came.judged

  -- ---- an interface

  module _ (k : ℕ) (a : Lines) (at : slice_get came.interfaces k ≡ Some a) (m : Member) (there : slice_get came.hierarchy.members k ≡ Some m) (known : IsKnown files m) where
    interface_claim : Accepts a → Claim (interface_heading m.elaborated.spec.name)
    interface_claim accepts = record {
      interface = λ name e. record {
        place = k;
        member = m;
        accepted = record { member = there; lines = a; answered = at; accepts = accepts };
        known = known;
        named = sym (spec_name files m known) ∙ same_interface m.elaborated.spec.name name e;
      };
      mapping = λ name e. absurd (headings_apart m.elaborated.spec.name name e);
    }

    interface_decided : (os : List Formula) → os ≡ formulas m.elaborated.spec → (second : Result (List Decision) Refusal)
        → Onward (λ ds out. out ≡ Ok (check_answer m.elaborated.spec os ds)) second (Ok a) → Sound (text_of a)
    interface_decided os is (Err r) e = absurd cc
    interface_decided os is (Ok ds) e =
        let p = m.elaborated.spec in
        let names = names_plain files m known in
        let same : a ≡ check_answer p os ds = cc in
        let named = subst (All IsNamed) (sym is) (formulas_named p names) in
        subst (λ x. Sound (text_of x)) (sym same)
        (block_sound Claim (interface_heading p.name) (all_lines p 1 os ds) (length os) (open_count ds) (free_append (codes "INTERFACE ") p.name refl (plain_free p.name names.name))
        (interface_is p.name) (all_inner p names 1 os ds named) (λ none. interface_claim (ap verdict_of same ∙ ap verdict_by none)))

    interface_listed : (first : Result (List Formula) Refusal) → FormulasListed (Some m.name) m.elaborated.spec first
        → Onward (λ os. λ out. (second : Result (List Decision) Refusal) × AllDecided (Some m.name) m.elaborated.spec 1 os second × Onward (λ ds end. end ≡ Ok (check_answer m.elaborated.spec os ds)) second out) first (Ok a)
        → Sound (text_of a)
    interface_listed (Err r) h e = absurd cc
    interface_listed (Ok os) h e = interface_decided os (listing_is (Some m.name) (formulas m.elaborated.spec) os (first_fault m.elaborated.spec 1 (formulas m.elaborated.spec)) h) e.0 e.2

    interface_sound : MemberAnswered m (Ok a) → Sound (text_of a)
    interface_sound h = interface_listed h.0 h.1 h.2

  interface_at : (k : ℕ) (a : Lines) → slice_get came.interfaces k ≡ Some a → Sound (text_of a)
  interface_at k a at =
      let m = each_from MemberAnswered came.hierarchy.members came.interfaces k a came.interfaces_answered at in
      interface_sound k a at m.0 m.1 (known_at files file came.texts came.hierarchy texts judged k m.0 m.1) m.2

  -- ---- a mapping

  module _ (k : ℕ) (a : Lines) (at : slice_get came.mappings k ≡ Some a) (m : Mapped) (there : slice_get came.hierarchy.mappings k ≡ Some m) (has : HasRow files came.texts came.hierarchy k m) where
    mapping_name : m.mapping.name ≡ has.known.text.name.name
    mapping_name = ap (λ (x : Mapping). x.name) has.known.meant

    mapping_claim : Accepts a → Claim (mapping_heading m.mapping.name)
    mapping_claim accepts = record {
      interface = λ name e. absurd (headings_apart name m.mapping.name (sym e));
      mapping = λ name e. record {
        place = k;
        mapped = m;
        accepted = record { mapped = there; lines = a; answered = at; accepts = accepts };
        has = has;
        named = sym (mapping_name ∙ has.known.named) ∙ same_mapping m.mapping.name name e;
      };
    }

    plain_text : IsPlainMapping has.known.text
    plain_text = mapping_plain has.known.text (read_tree mappings (mapping_file has.row.2.name) files has.known.text has.known.read)

    all_named : (p : Parts) → All IsNamed (map_formulas p m.mapping)
    all_named p =
        let up = has.known.above.elaborated in
        let low = has.known.below.elaborated in
        subst (λ x. All IsNamed (map_formulas p x)) (sym has.known.meant) (map_formulas_named p up.spec low.spec low.scopes has.known.text plain_text)

    module _ (low : Member) (known : IsKnown files low) where
      abbrev lower_spec : Parts
      lower_spec = low.elaborated.spec

      mapping_decided : (os : List Formula) → os ≡ map_formulas lower_spec m.mapping → (second : Result (List Decision) Refusal)
          → Onward (λ ds out. out ≡ Ok (owned_answer (mapping_line m.mapping) lower_spec os ds)) second (Ok a) → Sound (text_of a)
      mapping_decided os is (Err r) e = absurd cc
      mapping_decided os is (Ok ds) e =
          let names = names_plain files low known in
          let same : a ≡ owned_answer (mapping_line m.mapping) lower_spec os ds = cc in
          let named = subst (All IsNamed) (sym is) (all_named lower_spec) in
          let free = subst Free (sym mapping_name) (plain_free has.known.text.name.name plain_text.name) in
          subst (λ x. Sound (text_of x)) (sym same)
          (block_sound Claim (mapping_heading m.mapping.name) (all_lines lower_spec 1 os ds) (length os) (open_count ds) (free_append (codes "MAPPING ") m.mapping.name refl free)
          (mapping_is m.mapping.name) (all_inner lower_spec names 1 os ds named) (λ none. mapping_claim (ap verdict_of same ∙ ap verdict_by none)))

      mapping_listed : (first : Result (List Formula) Refusal) → MapFormulasListed lower_spec m.mapping first
          → Onward (λ os. λ out. (second : Result (List Decision) Refusal) × AllDecided (Some m.mapping.name) lower_spec 1 os second × Onward (λ ds end. end ≡ Ok (owned_answer (mapping_line m.mapping) lower_spec os ds)) second out) first (Ok a)
          → Sound (text_of a)
      mapping_listed (Err r) h e = absurd cc
      mapping_listed (Ok os) h e = mapping_decided os (listing_is (Some m.mapping.name) (map_formulas lower_spec m.mapping) os (first_fault lower_spec 1 (map_formulas lower_spec m.mapping)) h) e.0 e.2

      mapping_over : MappingAnswered lower_spec m.mapping (Ok a) → Sound (text_of a)
      mapping_over h = mapping_listed h.0 h.1 h.2

    mapping_sound : MappedAnswered came.hierarchy.members m (Ok a) → Sound (text_of a)
    mapping_sound h =
        let low = has.known.below in
        mapping_over low (known_at files file came.texts came.hierarchy texts judged m.lower low has.known.below_at) (subst (λ o. AnsweredOver m o (Ok a)) has.known.below_at h)

  mapping_block : (k : ℕ) (a : Lines) → slice_get came.mappings k ≡ Some a → Sound (text_of a)
  mapping_block k a at =
      let m = each_from (MappedAnswered came.hierarchy.members) came.hierarchy.mappings came.mappings k a came.mappings_answered at in
      mapping_sound k a at m.0 m.1 (mapping_at file files came.texts came.hierarchy texts judged k m.0 m.1) m.2

  -- ---- the whole

  texts_sound : (xs : List Lines) → ((k : ℕ) (a : Lines) → slice_get xs k ≡ Some a → Sound (text_of a)) → Sound (texts_of xs)
  texts_sound [] f = sound_nothing Claim None
  texts_sound (x ∷ xs) f = sound_append Claim None (text_of x) (texts_of xs) (f 0 x refl) (texts_sound xs (λ k. f (suc k)))

  both_sound : (xs ys : List Lines) → ((k : ℕ) (a : Lines) → slice_get xs k ≡ Some a → Sound (text_of a)) → ((k : ℕ) (a : Lines) → slice_get ys k ≡ Some a → Sound (text_of a)) → Sound (texts_of (xs ++ ys))
  both_sound [] ys f g = texts_sound ys g
  both_sound (x ∷ xs) ys f g = sound_append Claim None (text_of x) (texts_of (xs ++ ys)) (f 0 x refl) (both_sound xs ys (λ k. f (suc k)) g)

  whole_inner : (b : Bool) → InInnerLines (whole_line b)
  whole_inner true = inner_line (codes "HIERARCHY ACCEPTED\n") (ends_with (codes "HIERARCHY ACCEPTED") refl) refl
  whole_inner false = inner_line (codes "HIERARCHY REFUSED\n") (ends_with (codes "HIERARCHY REFUSED") refl) refl

  pub report_sound : IsSound Claim None (text_of answer)
  report_sound =
      let all = came.interfaces ++ came.mappings in
      subst (λ x. Sound (text_of x)) (sym came.whole)
      (sound_append Claim None (texts_of all) (whole_line (all_accept all)) (both_sound came.interfaces came.mappings interface_at mapping_block)
      (sound_alone Claim None (whole_line (all_accept all)) (whole_inner (all_accept all))))
