-- Lists of effects, as a loop goes over them.
use Rattle.std.proofs.Common.{◌≡◌, refl, sym, ◌∙◌, ap, ℕ, ◌+◌, ◌<◌, Bool, true, false, List, [], ◌∷◌, ◌++◌, map, length, take, get_or, append_assoc, Option}
use Rattle.std.specs.Prelude.{◌||◌}
use Rattle.std.proofs.lemmas.List.{append-nil, take_more}
use Rattle.sp_tree.specs.declared.effect.EffectTree.{EffectTree}
use Rattle.sp_core.specs.Effects.{EffectTrees}
use Rattle.sp_core.specs.Effects as effect
use Rattle.sp_scopes.specs.declared.heads.Local.{Local}
use Rattle.sp_judge.specs.Visible.{Visible}
use Rattle.sp_effects.specs.EffectCore.{joined_effects, effect_core, effects_core}
use Rattle.sp_effects.specs.EffectRules.{effect_broken, effects_broken, effect_quotes, effects_quotes, change_places, change_places_in}
use Rattle.sp_effects.specs.EffectText.{effect_text, effect_texts_of}
use Rattle.sp_effects.specs.Forms.{may, may_in}

last : {X : Type 0} (F : List EffectTree → X) (ws : List EffectTree) (k : ℕ) (w : EffectTree) → k < length ws → w ≡ get_or ws k w → F (take (k + 1) ws) ≡ F (take k ws ++ w ∷ [])
last F ws k w l e = ap F (take_more ws k w l ∙ ap (λ x. take k ws ++ x ∷ []) (sym e))

or_false : (a : Bool) → (a || false) ≡ a
or_false true = refl
or_false false = refl

or_assoc : (a b c : Bool) → ((a || b) || c) ≡ (a || (b || c))
or_assoc true b c = refl
or_assoc false b c = refl

may-append : (r : Option Local) (ws : List EffectTree) (w : EffectTree) → may_in r (effect_texts_of (map effect_text (ws ++ w ∷ []))) ≡ (may_in r (effect_texts_of (map effect_text ws)) || may r (effect_text w))
may-append r [] w = or_false (may r (effect_text w))
may-append r (v ∷ ws) w = ap (λ b. may r (effect_text v) || b) (may-append r ws w) ∙ sym (or_assoc (may r (effect_text v)) (may_in r (effect_texts_of (map effect_text ws))) (may r (effect_text w)))

-- whether a result is taken after the effects so far
pub taken-next : (taken : Bool) (r : Option Local) (ws : List EffectTree) (k : ℕ) (w : EffectTree) → k < length ws → w ≡ get_or ws k w →
    ((taken || may_in r (effect_texts_of (map effect_text (take k ws)))) || may r (effect_text w)) ≡ (taken || may_in r (effect_texts_of (map effect_text (take (k + 1) ws))))
taken-next taken r ws k w l e =
    or_assoc taken (may_in r (effect_texts_of (map effect_text (take k ws)))) (may r (effect_text w))
    ∙ ap (λ b. taken || b) (sym (last (λ z. may_in r (effect_texts_of (map effect_text z))) ws k w l e ∙ may-append r (take k ws) w))

module _ (s : Visible) (n : ℕ) (r : Option Local) (b : ℕ) (l : List Local) where
  broken-append : (taken : Bool) (ws : List EffectTree) (w : EffectTree) →
      effects_broken s n r b l taken (effect_texts_of (map effect_text (ws ++ w ∷ [])))
      ≡ effects_broken s n r b l taken (effect_texts_of (map effect_text ws)) ++ effect_broken s n r b l (taken || may_in r (effect_texts_of (map effect_text ws))) (effect_text w)
  broken-append taken [] w = append-nil (effect_broken s n r b l taken (effect_text w)) ∙ ap (λ t. effect_broken s n r b l t (effect_text w)) (sym (or_false taken))
  broken-append taken (v ∷ ws) w =
      let own = effect_broken s n r b l taken (effect_text v) in
      let after = taken || may r (effect_text v) in
      let others = effects_broken s n r b l after (effect_texts_of (map effect_text ws)) in
      ap (λ xs. own ++ xs) (broken-append after ws w ∙ ap (λ t. others ++ effect_broken s n r b l t (effect_text w)) (or_assoc taken (may r (effect_text v)) (may_in r (effect_texts_of (map effect_text ws)))))
      ∙ sym (append_assoc own others (effect_broken s n r b l (taken || (may r (effect_text v) || may_in r (effect_texts_of (map effect_text ws)))) (effect_text w)))

  pub broken-next : (taken : Bool) (ws : List EffectTree) (k : ℕ) (w : EffectTree) → k < length ws → w ≡ get_or ws k w →
      effects_broken s n r b l taken (effect_texts_of (map effect_text (take (k + 1) ws)))
      ≡ effects_broken s n r b l taken (effect_texts_of (map effect_text (take k ws))) ++ effect_broken s n r b l (taken || may_in r (effect_texts_of (map effect_text (take k ws)))) (effect_text w)
  broken-next taken ws k w m e = last (λ z. effects_broken s n r b l taken (effect_texts_of (map effect_text z))) ws k w m e ∙ broken-append taken (take k ws) w

  quotes-append : (ws : List EffectTree) (w : EffectTree) → effects_quotes s n r b l (effect_texts_of (map effect_text (ws ++ w ∷ []))) ≡ effects_quotes s n r b l (effect_texts_of (map effect_text ws)) ++ effect_quotes s n r b l (effect_text w)
  quotes-append [] w = append-nil (effect_quotes s n r b l (effect_text w))
  quotes-append (v ∷ ws) w =
      let own = effect_quotes s n r b l (effect_text v) in
      ap (λ xs. own ++ xs) (quotes-append ws w) ∙ sym (append_assoc own (effects_quotes s n r b l (effect_texts_of (map effect_text ws))) (effect_quotes s n r b l (effect_text w)))

  pub quotes-next : (ws : List EffectTree) (k : ℕ) (w : EffectTree) → k < length ws → w ≡ get_or ws k w →
      effects_quotes s n r b l (effect_texts_of (map effect_text (take (k + 1) ws))) ≡ effects_quotes s n r b l (effect_texts_of (map effect_text (take k ws))) ++ effect_quotes s n r b l (effect_text w)
  quotes-next ws k w m e = last (λ z. effects_quotes s n r b l (effect_texts_of (map effect_text z))) ws k w m e ∙ quotes-append (take k ws) w

module _ (s : Visible) (r : Option Local) (l : List Local) where
  places-append : (ws : List EffectTree) (w : EffectTree) → change_places_in s r l (effect_texts_of (map effect_text (ws ++ w ∷ []))) ≡ change_places_in s r l (effect_texts_of (map effect_text ws)) ++ change_places s r l (effect_text w)
  places-append [] w = append-nil (change_places s r l (effect_text w))
  places-append (v ∷ ws) w =
      let own = change_places s r l (effect_text v) in
      ap (λ xs. own ++ xs) (places-append ws w) ∙ sym (append_assoc own (change_places_in s r l (effect_texts_of (map effect_text ws))) (change_places s r l (effect_text w)))

  pub places-next : (ws : List EffectTree) (k : ℕ) (w : EffectTree) → k < length ws → w ≡ get_or ws k w →
      change_places_in s r l (effect_texts_of (map effect_text (take (k + 1) ws))) ≡ change_places_in s r l (effect_texts_of (map effect_text (take k ws))) ++ change_places s r l (effect_text w)
  places-next ws k w m e = last (λ z. change_places_in s r l (effect_texts_of (map effect_text z))) ws k w m e ∙ places-append (take k ws) w

  joined_none : (ws : EffectTrees) → joined_effects ws effect.none ≡ ws
  joined_none effect.none = refl
  joined_none (effect.more w ws) = ap (effect.more w) (joined_none ws)

  joined_assoc : (us vs ws : EffectTrees) → joined_effects us (joined_effects vs ws) ≡ joined_effects (joined_effects us vs) ws
  joined_assoc effect.none vs ws = refl
  joined_assoc (effect.more u us) vs ws = ap (effect.more u) (joined_assoc us vs ws)

  core-append : (ws : List EffectTree) (w : EffectTree) → joined_effects (effects_core s r l (effect_texts_of (map effect_text ws))) (effect_core s r l (effect_text w)) ≡ effects_core s r l (effect_texts_of (map effect_text (ws ++ w ∷ [])))
  core-append [] w = sym (joined_none (effect_core s r l (effect_text w)))
  core-append (v ∷ ws) w =
      let own = effect_core s r l (effect_text v) in
      sym (joined_assoc own (effects_core s r l (effect_texts_of (map effect_text ws))) (effect_core s r l (effect_text w))) ∙ ap (joined_effects own) (core-append ws w)

  pub core-next : (ws : List EffectTree) (k : ℕ) (w : EffectTree) → k < length ws → w ≡ get_or ws k w →
      joined_effects (effects_core s r l (effect_texts_of (map effect_text (take k ws)))) (effect_core s r l (effect_text w)) ≡ effects_core s r l (effect_texts_of (map effect_text (take (k + 1) ws)))
  core-next ws k w m e = core-append (take k ws) w ∙ sym (last (λ z. effects_core s r l (effect_texts_of (map effect_text z))) ws k w m e)
