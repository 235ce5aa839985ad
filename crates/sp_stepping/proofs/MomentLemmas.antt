-- What holds of an invocation in a state, where the changes of some ranks are made.
use Rattle.std.proofs.Common.{◌≡◌, refl, sym, ◌∙◌, ap, subst, arith, ℕ, zero, suc, ◌+◌, ◌<◌, ◌≤◌, Bool, true, false, List, [], ◌++◌, length, map, Option, Some, None}
use Rattle.std.specs.Prelude.{◌==◌}
use Rattle.std.proofs.lemmas.List.{length-map}
use Rattle.std.proofs.lemmas.List.Elements.{All-nil}
use Rattle.std.proofs.lemmas.Bool.Decides.{Decides-eqb}
use Rattle.sp_text.specs.declared.limits.TheConstants.{MOST_CHANGES}
use Rattle.sp_values.specs.declared.value.Value.{Value}
use Rattle.sp_values.specs.declared.place.Invocation.{Invocation}
use Rattle.sp_core.specs.declared.function.Effect.{Effect}
use Rattle.sp_core.specs.declared.function.Kind.{Kind}
use Rattle.sp_core.specs.declared.function.Kind.TheVariants as kind
use Rattle.sp_core.specs.declared.state.Entry.{Entry}
use Rattle.sp_core.specs.Effects.{changes_in, effect_tree, effect_trees, effect_trees_of, results_in}
use Rattle.sp_core.specs.Instances.{InstanceParts, filling_of, sizes_of}
use Rattle.sp_core.specs.Machine.{Changes, ChangesByRank, IsState, Stage, types_of}
use Rattle.sp_core.specs.Parts.{Parts, signature}
use Rattle.sp_core.specs.Ranks.{HasNoCycle, greatest, of_rank, rank_count}
use Rattle.sp_core.specs.States.{AreApart, entry_of}
use Rattle.sp_core.specs.Typing.{Signature}
use Rattle.sp_core.specs.Values.{Store}
use Rattle.sp_core.specs.WellFormed.{AreEffectsOf, IsInjective, IsKind}
use Rattle.sp_core.proofs.Bindings.{length_values}
use Rattle.sp_core.proofs.Elements.{Contains-nil}
use Rattle.sp_core.proofs.StatesTyped.{args_typed, stage_typed}
use Rattle.sp_core.proofs.Steps.{stage_one}
use Rattle.sp_values.specs.declared.value.Ty.{Ty}
use Rattle.sp_eval.specs.Laws.{OverlayLaw}
use Rattle.sp_eval.specs.Overlays.{overlay, upper_or}
use Rattle.sp_eval.specs.Settings.{IsSetting, Setting}
use Rattle.sp_listing.specs.Conditions as listing
use Rattle.sp_listing.specs.Conditions.{AreEffectsIn}
use Rattle.sp_listing.specs.Laws.{ChangedLaw, EntriesLaw, OrderLaw}
use Rattle.sp_listing.specs.Listing.{AreAlike, HasEntries, IsWithin, fresh}
use Rattle.sp_listing.specs.True.{AreOf, true_entries}
use Rattle.sp_stepping.specs.Moments.{AreChangedWithin, AreMade, IsCall, IsMoment, Moment, changes, first_result, laid, machine, state, trees}
use Rattle.sp_stepping.specs.Stepping.{IsChangeFault}
use Rattle.sp_stepping.specs.declared.fault.StepFault.TheVariants as fault
use Rattle.sp_stepping.proofs.RankCounts.{count_is, few_ranks}
use mathlib.Core.Path.{fun_ext}

-- what is evaluated over, where changes are laid over the state
abbrev pub setting : Moment → List Entry → Setting
setting n made = record { parts = n.parts; instance = n.instance; old = n.entries; new = made ++ n.entries }

-- a state has as many entries as it has in memory
pub entries_of : (es : List Entry) → AreApart es → HasEntries (entry_of es) (length es)
entries_of es a = (es, record { apart = a; map = refl }, refl)

no_cycle_none : HasNoCycle []
no_cycle_none n g h = absurd (Contains-nil h.2.0 h.2.1.of)

at_or_below : (P : Type 0) (j k : ℕ) → j ≤ suc k → (j ≤ k → P) → (j ≡ suc k → P) → P
at_or_below P j k l less same = by (j == suc k) refl
  where
    by : (b : Bool) → (j == suc k) ≡ b → P
    by true q = same ((Decides-eqb j (suc k)).0 q)
    by false q = less (grind (arith, l, q))

-- a function with effects is an O-function or an OV-function, whose effects are well-formed, or there are none
pub own_effects : (sg : Signature) (xs : List Ty) (g : ℕ) (k : Kind) → IsKind sg xs g k → (r : Option Ty) × AreEffectsOf sg r xs (effect_trees k)
own_effects sg xs g (kind.Primitive t e) h = (None, record { effects = tt; few_bound = omega arith; few_changes = omega arith; injective = All-nil (IsInjective (length xs)); no_cycle = no_cycle_none })
own_effects sg xs g (kind.Derived t e) h = (None, record { effects = tt; few_bound = omega arith; few_changes = omega arith; injective = All-nil (IsInjective (length xs)); no_cycle = no_cycle_none })
own_effects sg xs g (kind.Operation es) h = (None, h.effects)
own_effects sg xs g (kind.Both t es) h = (Some t, h.effects)

over_over : (a b c : Option Value) → upper_or (upper_or a b) c ≡ upper_or a (upper_or b c)
over_over None b c = refl
over_over (Some x) b c = refl

pub overlay_twice : (d e s : Store) → overlay (overlay d e) s ≡ overlay d (overlay e s)
overlay_twice d e s = fun_ext (λ g. fun_ext (λ v. over_over (d g v) (e g v) (s g v)))

-- a call has few changes
pub few_changes : (p : Parts) (inst : InstanceParts) (entries : List Entry) (spare : ℕ) (i : Invocation) (es : List Effect) → IsCall p inst entries spare i es → length (changes_in (effect_trees_of (map effect_tree es))) ≤ MOST_CHANGES
few_changes p inst entries spare i es (f, c) =
    let fine = c.well_formed.functions i.fun f c.call.function in
    let own = own_effects (signature p) (types_of f.formals) i.fun f.kind fine.kind in
    let few : length (changes_in (effect_trees f.kind)) ≤ MOST_CHANGES = own.1.few_changes in
    subst (λ ts. length (changes_in ts) ≤ MOST_CHANGES) c.effects few

-- what is listed over the state with changes laid over it
pub listed_is : OverlayLaw → (n : Moment) (made : List Entry) (k : ℕ) (over : Setting) → over ≡ setting n made
    → true_entries (listing.machine over) (entry_of over.old) (entry_of over.new) n.invocation (of_rank (changes n) k) ≡ true_entries (machine n) (state n) (laid n made) n.invocation (of_rank (changes n) k)
listed_is law n made k over e =
    ap (λ (s : Setting). true_entries (listing.machine s) (entry_of s.old) (entry_of s.new) n.invocation (of_rank (changes n) k)) e
    ∙ ap (λ (u : Store). true_entries (machine n) (state n) u n.invocation (of_rank (changes n) k)) (law made n.entries)

-- and the first true result
pub result_is : OverlayLaw → (n : Moment) (made : List Entry) (over : Setting) → over ≡ setting n made → (x : List Value) → x ≡ n.invocation.args
    → first_result (listing.machine over) (entry_of over.old) (entry_of over.new) x (results_in (trees n)) ≡ first_result (machine n) (state n) (laid n made) n.invocation.args (results_in (trees n))
result_is law n made over e x at =
    ap (λ (s : Setting). first_result (listing.machine s) (entry_of s.old) (entry_of s.new) x (results_in (trees n))) e
    ∙ (λ j. first_result (machine n) (state n) (law made n.entries j) (at j) (results_in (trees n)))

module _ (n : Moment) (is : IsMoment n) where
  pub rank_number : greatest suc n.ranks ≡ rank_count (changes n)
  rank_number = count_is (changes n) n.ranks is.ranks

  pub ranks_small : rank_count (changes n) ≤ 65
  ranks_small =
      let few = few_changes n.parts n.instance n.entries n.room n.invocation n.effects is.call in
      let most = few_ranks (changes n) in
      omega (arith, few, most)

  -- the states between the ranks are states of the machine
  pub made_state : (k : ℕ) (u : Store) → Stage (machine n) (state n) n.invocation (changes n) k u → IsState (machine n) u
  made_state k u h =
      let c = is.call.1 in
      let own = subst (λ ts. Stage (machine n) (state n) n.invocation (changes_in ts) k u) (sym c.effects) h in
      stage_typed n.parts (filling_of n.instance) c.well_formed c.given.instance.instance n.invocation is.call.0 c.call (state n) c.given.state k u own

  pub made_setting : OverlayLaw → (k : ℕ) (made : List Entry) → AreMade n k made → IsSetting (setting n made)
  made_setting law k made h =
      let c = is.call.1 in
      record {
        well_formed = c.well_formed;
        instance = c.given.instance;
        old = c.given.state;
        new = subst (IsState (machine n)) (sym (law made n.entries)) (made_state k (laid n made) h.stage);
      }

  -- the effects are those of an environment of the arguments
  pub effects_in : (made : List Entry) → AreEffectsIn (setting n made) n.invocation.args (trees n)
  effects_in made =
      let c = is.call.1 in
      let fine = c.well_formed.functions n.invocation.fun is.call.0 c.call.function in
      let own = own_effects (signature n.parts) (types_of is.call.0.formals) n.invocation.fun is.call.0.kind fine.kind in
      let effects : AreEffectsOf (signature n.parts) own.0 (types_of is.call.0.formals) (trees n) = subst (AreEffectsOf (signature n.parts) own.0 (types_of is.call.0.formals)) c.effects own.1 in
      let values = args_typed n.parts (filling_of n.instance) c.well_formed c.given.instance.instance n.invocation is.call.0 c.call in
      let long = length_values (sizes_of n.parts (filling_of n.instance)) (types_of is.call.0.formals) n.invocation.args values in
      let many = length-map is.call.0.formals (λ p. p.ty) in (
        own.0,
        types_of is.call.0.formals,
        record {
          environment = record { values = values; room = omega (arith, long, many, fine.formals.few, effects.few_bound) };
          effects = effects.effects;
          few = effects.few_changes;
        },
      )

  -- before the first rank nothing is made
  pub none_made : AreMade n 0 []
  none_made = record {
    stage = refl;
    within = λ j u l h. within_none j l u h;
    few = omega arith;
  }
    where
      within_none : (j : ℕ) → j ≤ 0 → (u : Store) → Stage (machine n) (state n) n.invocation (changes n) j u → IsWithin u
      within_none zero l u h = (length n.entries, subst (λ v. HasEntries v (length n.entries)) (sym h) (entries_of n.entries is.call.1.apart), omega (arith, is.call.1.room))
      within_none (suc j) l u h = absurd (omega (arith, l))

  -- the next rank
  module _ (k : ℕ) (made next both : List Entry) (h : AreMade n k made) (es : List Entry) (listed : es ≡ true_entries (machine n) (state n) (laid n made) n.invocation (of_rank (changes n) k))
      (alike : AreAlike es) (same : entry_of next ≡ entry_of es) (laid_both : entry_of both ≡ overlay (entry_of next) (entry_of made)) (order : OrderLaw) (changed : ChangedLaw) (count : EntriesLaw) (apart : AreApart both) where
    both_is : laid n both ≡ overlay (entry_of es) (laid n made)
    both_is = ap (λ d. overlay d (state n)) (laid_both ∙ ap (λ d. overlay d (entry_of made)) same) ∙ overlay_twice (entry_of es) (entry_of made) (state n)

    next_changed : Changes (machine n) (state n) (laid n made) n.invocation (of_rank (changes n) k) (laid n both)
    next_changed =
        let of = order (machine n) (state n) (laid n made) n.invocation (of_rank (changes n) k) in
        subst (Changes (machine n) (state n) (laid n made) n.invocation (of_rank (changes n) k)) (sym both_is)
        (changed (machine n) (state n) (laid n made) n.invocation (of_rank (changes n) k) es (subst (λ xs. AreOf (machine n) (state n) (laid n made) n.invocation (of_rank (changes n) k) xs) (sym listed) of) alike)

    next_stage : Stage (machine n) (state n) n.invocation (changes n) (suc k) (laid n both)
    next_stage = (laid n made, h.stage, next_changed)

    both_entries : HasEntries (laid n both) (length n.entries + fresh both (state n))
    both_entries = count both (state n) (length n.entries) apart (entries_of n.entries is.call.1.apart)

    pub made_next : fresh both (state n) ≤ n.room → AreMade n (suc k) both
    made_next few = record { stage = next_stage; within = λ j u l s. by j l u s; few = few }
      where
        here : (u : Store) → Stage (machine n) (state n) n.invocation (changes n) (suc k) u → IsWithin u
        here u s =
            let one = stage_one (machine n) (state n) n.invocation (changes n) (suc k) (laid n both) u next_stage s in
            (length n.entries + fresh both (state n), subst (λ v. HasEntries v (length n.entries + fresh both (state n))) one both_entries, omega (arith, few, is.call.1.room))

        by : (j : ℕ) → j ≤ suc k → (u : Store) → Stage (machine n) (state n) n.invocation (changes n) j u → IsWithin u
        by j l u s = at_or_below (IsWithin u) j k l (λ less. h.within j u less s) (λ e. here u (subst (λ i. Stage (machine n) (state n) n.invocation (changes n) i u) e s))

    pub full_next : k < rank_count (changes n) → n.room < fresh both (state n) → IsChangeFault (machine n) (state n) n.invocation (changes n) fault.StateFull
    full_next rank full = (
      suc k,
      laid n both,
      record {
        rank = omega (arith, rank);
        before = next_stage;
        full = (length n.entries + fresh both (state n), both_entries, omega (arith, full, is.call.1.room));
      },
    )

-- where all changes are made and written, the state is the one after them
pub changed_within : (n k : Moment) → n ≡ k → (made : List Entry) → AreMade n (rank_count (changes n)) made → (t : Store) → t ≡ laid k made → AreChangedWithin (machine k) (state k) k.invocation (changes k) t
changed_within n k same made h t e =
    let own : AreMade k (rank_count (changes k)) made = subst (λ (m : Moment). AreMade m (rank_count (changes m)) made) same h in
    record { made = subst (ChangesByRank (machine k) (state k) k.invocation (changes k)) (sym e) own.stage; within = own.within }
