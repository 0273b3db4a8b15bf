-- Each call keeps what holds of a map at every moment.
use Rattle.std.proofs.Common.{◌≡◌, Bool, true, false, cond, List, [], ◌∷◌, ◌++◌, refl, ap, ◌∙◌}
use Rattle.std.specs.Prelude.{Option, Some, None, filter}
use Rattle.rl_types.specs.declared.frames.Cursor.{Cursor}
use Rattle.rl_types.specs.declared.presence.PresenceItem.{PresenceItem}
use Rattle.rl_presmap.specs.declared.held.Held.{Held}
use Rattle.rl_presmap.specs.declared.held.Standing.{Standing}
use Rattle.rl_presmap.specs.declared.held.Standing.TheVariants as standing
use Rattle.rl_presmap.specs.declared.held.SyncState.{SyncState}
use Rattle.rl_presmap.specs.declared.held.SyncState.TheVariants.{Closed, Opened, Numbered}
use Rattle.rl_presmap.specs.declared.events.PresenceEvent.{PresenceEvent}
use Rattle.rl_presmap.specs.Held.{PresenceMap, AreRising, ArePlain, IsSound, is_plain, is_residual, is_open}
use Rattle.rl_presmap.specs.Steps.{all_plain, ended, end_events, leaves, goes_on, begun, paged, page_taken, is_empty}
use Rattle.rl_presmap.specs.Soundness.{IsSoundMap, MapsStaySound}
use Rattle.rl_presmap.proofs.Sound.{sound_item, sound_opened, sound_ended, sound_numbered, sound_nothing, items_rising, begun_rising}

page_rises : (known : PresenceMap) (at : Option Cursor) (items : List PresenceItem) → AreRising known.held → AreRising (paged at items known)
page_rises known at items rising = items_rising items (begun at known) (begun_rising (goes_on known.sync at) known.held rising)

sound_page : (known : PresenceMap) (at : Option Cursor) (items : List PresenceItem) → AreRising known.held → IsSoundMap (page_taken at items known)
sound_page known None items rising = sound_ended (paged None items known) (page_rises known None items rising)
sound_page known (Some at) items rising = by_end (is_empty at.cursor)
  where
    by_end : (b : Bool) → IsSoundMap (cond b (ended (paged (Some at) items known)) (record { held = paged (Some at) items known; sync = Numbered at.sequence }))
    by_end true = sound_ended (paged (Some at) items known) (page_rises known (Some at) items rising)
    by_end false = sound_numbered at.sequence (paged (Some at) items known) (page_rises known (Some at) items rising)

all_stay : (held : List Held) → ArePlain held → all_plain held ≡ held
all_stay [] all = refl
all_stay (h ∷ held) all = ap (λ b. cond b (h ∷ all_plain held) (all_plain held)) all.0 ∙ ap (λ (xs : List Held). h ∷ xs) (all_stay held all.1)

not_residual : (stands : Standing) → is_plain stands ≡ true → is_residual stands ≡ false
not_residual standing.Member is = refl
not_residual standing.Residual is = absurd (cc)
not_residual standing.Absent is = refl

none_residual : (held : List Held) → ArePlain held → filter (λ one. is_residual one.standing) held ≡ []
none_residual [] all = refl
none_residual (h ∷ held) all =
    ap (λ b. cond b (h ∷ filter (λ one. is_residual one.standing) held) (filter (λ one. is_residual one.standing) held)) (not_residual h.standing all.0) ∙ none_residual held all.1

same_sync : (sync : SyncState) → is_open sync ≡ false → Closed ≡ sync
same_sync Closed is = refl
same_sync Opened is = absurd (cc)
same_sync (Numbered sequence) is = absurd (cc)

abbrev known_as : List Held → SyncState → PresenceMap
known_as held sync = record { held = held; sync = sync }

nothing_ends : (known : PresenceMap) → ArePlain known.held → is_open known.sync ≡ false → (ended known.held ≡ known) × (end_events known.held ≡ [])
nothing_ends known plain closed =
    (ap (λ (xs : List Held). known_as xs Closed) (all_stay known.held plain) ∙ ap (known_as known.held) (same_sync known.sync closed), ap leaves (none_residual known.held plain))

pub maps_stay_sound : MapsStaySound
maps_stay_sound = record {
  nothing = sound_nothing;
  calls = λ known sound. record {
    item = λ item. sound_item item known.held known.sync sound;
    opens = sound_opened known.held known.sync sound;
    page = λ at items. sound_page known at items sound.rising;
    ends = sound_ended known.held sound.rising;
    nothing_ends = λ closed. nothing_ends known (sound.plain closed) closed;
  };
}

-- THE END OF A SYNC, WHERE NONE IS OPEN

module _ (old : List Held) (sync : SyncState) (known : PresenceMap) (seen : known_as old sync ≡ known) (sound : IsSound old sync) (closed : is_open known.sync ≡ false) where
  was_closed : is_open sync ≡ false
  was_closed = ap (λ (k : PresenceMap). is_open k.sync) seen ∙ closed

  pub nothing_changes : (new : List Held) → new ≡ all_plain old → known_as new Closed ≡ known
  nothing_changes new step = ap (λ (xs : List Held). known_as xs Closed) step ∙ (nothing_ends (known_as old sync) (sound.plain was_closed) was_closed).0 ∙ seen

  pub nobody_leaves : (before told result : List PresenceEvent) → result ≡ told → told ≡ before ++ end_events old → before ≡ [] → result ≡ []
  nobody_leaves before told result is step none =
      is ∙ step ∙ ap (λ (es : List PresenceEvent). es ++ end_events old) none ∙ (nothing_ends (known_as old sync) (sound.plain was_closed) was_closed).1
