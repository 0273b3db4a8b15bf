-- What the calls leave, from what their steps do.
use Rattle.std.proofs.Common.{◌≡◌, ℕ, Bool, cond, List, [], ◌∷◌, ap, sym, subst, ◌∙◌}
use Rattle.std.specs.Prelude.{Option}
use Rattle.rl_types.specs.declared.frames.Cursor.{Cursor}
use Rattle.rl_types.specs.declared.presence.PresenceItem.{PresenceItem}
use Rattle.rl_presmap.specs.declared.held.Held.{Held}
use Rattle.rl_presmap.specs.declared.held.SyncState.{SyncState}
use Rattle.rl_presmap.specs.declared.held.SyncState.TheVariants.{Closed, Opened, Numbered}
use Rattle.rl_presmap.specs.Held.{PresenceMap, AreRising, IsSound, is_open}
use Rattle.rl_presmap.specs.Steps.{with_each, with_item, with_items, all_residual, all_plain, goes_on, begun}
use Rattle.rl_presmap.proofs.Sound.{sound_item, sound_opened, sound_ended, sound_numbered, items_rising, begun_rising}

abbrev pub known_as : List Held → SyncState → PresenceMap
known_as held sync = record { held = held; sync = sync }

pub still_rising : (old new : List Held) (sync : SyncState) → new ≡ old → IsSound old sync → AreRising new
still_rising old new sync same sound = subst AreRising (sym same) sound.rising

pub applied_sound : (item : PresenceItem) (old kept new : List Held) (sync : SyncState) (syncing : Bool) → kept ≡ old → syncing ≡ is_open sync → new ≡ with_item syncing item kept
    → IsSound old sync → IsSound new sync
applied_sound item old kept new sync syncing same is_on step sound =
    let is : new ≡ with_item (is_open sync) item old = step ∙ ap (λ b. with_item b item kept) is_on ∙ ap (with_item (is_open sync) item) same in
    subst (λ (xs : List Held). IsSound xs sync) (sym is) (sound_item item old sync sound)

each_sound : (sync : SyncState) (items : List PresenceItem) (held : List Held) → IsSound held sync → IsSound (with_each (is_open sync) items held) sync
each_sound sync [] held sound = sound
each_sound sync (item ∷ items) held sound = each_sound sync items (with_item (is_open sync) item held) (sound_item item held sync sound)

pub all_sound : (items : List PresenceItem) (old kept new : List Held) (sync : SyncState) (syncing : Bool) → kept ≡ old → syncing ≡ is_open sync → new ≡ with_each syncing items kept
    → IsSound old sync → IsSound new sync
all_sound items old kept new sync syncing same is_on step sound =
    let is : new ≡ with_each (is_open sync) items old = step ∙ ap (λ b. with_each b items kept) is_on ∙ ap (with_each (is_open sync) items) same in
    subst (λ (xs : List Held). IsSound xs sync) (sym is) (each_sound sync items old sound)

pub opened_sound : (old new : List Held) (sync : SyncState) → new ≡ all_residual old → IsSound old sync → IsSound new Opened
opened_sound old new sync step sound = subst (λ (xs : List Held). IsSound xs Opened) (sym step) (sound_opened old sync sound)

pub ended_sound : (old new : List Held) → new ≡ all_plain old → AreRising old → IsSound new Closed
ended_sound old new step rising = subst (λ (xs : List Held). IsSound xs Closed) (sym step) (sound_ended old rising)

-- A PAGE

pub begun_is : (at : Option Cursor) (old kept new : List Held) (sync : SyncState) (goes : Bool) → kept ≡ old → goes ≡ goes_on sync at → new ≡ cond goes kept (all_residual kept)
    → new ≡ begun at (known_as old sync)
begun_is at old kept new sync goes same is step =
    step ∙ ap (λ b. cond b kept (all_residual kept)) is ∙ ap (λ (xs : List Held). cond (goes_on sync at) xs (all_residual xs)) same

pub begins_rising : (old kept new : List Held) (sync : SyncState) (goes : Bool) → kept ≡ old → new ≡ cond goes kept (all_residual kept) → IsSound old sync → AreRising new
begins_rising old kept new sync goes same step sound =
    subst AreRising (sym step) (begun_rising goes kept (subst AreRising (sym same) sound.rising))

pub page_rising : (items : List PresenceItem) (first last : List Held) → last ≡ with_items items first → AreRising first → AreRising last
page_rising items first last step rising = subst AreRising (sym step) (items_rising items first rising)

pub page_sound : (sequence : List ℕ) (items : List PresenceItem) (first last : List Held) → last ≡ with_items items first → AreRising first → IsSound last (Numbered sequence)
page_sound sequence items first last step rising = sound_numbered sequence last (page_rising items first last step rising)
