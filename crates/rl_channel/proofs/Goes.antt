-- A connection goes, and its members with it.
use Rattle.std.proofs.Common.{◌≡◌, ℕ, List, ◌∷◌, ◌++◌, map, refl, ap, sym, subst, ◌∙◌}
use Rattle.std.specs.Prelude.{max, filter, reverse, Option, Some, None, option_map, option_to_list}
use Rattle.rl_ids.specs.Forms.{conn_text}
use Rattle.rl_events.specs.declared.channel.ChannelEvent.{ChannelEvent}
use Rattle.rl_events.specs.declared.channel.ChannelEvent.TheVariants.{Gone}
use Rattle.rl_types.specs.declared.messages.Entry.{Entry}
use Rattle.rl_types.specs.declared.presence.PresenceItem.{PresenceItem}
use Rattle.rl_model.specs.History.{clock}
use Rattle.rl_model.specs.Members.{is_on, members, members_of, items_of}
use Rattle.rl_model.specs.Verdict.{decisions, entry_of_gone, members_on, told, log, head}
use Rattle.rl_model.specs.Parts.{Parts, parts_of, without_outcome}
use Rattle.rl_model.specs.Reply.{gone_place}
use Rattle.rl_chanlog.specs.Keeps.{ChanLogView, Keeps}
use Rattle.rl_channel.specs.State.{ChannelState, StandsAt}
use Rattle.rl_channel.specs.Steps.{gone_parts}
use Rattle.rl_channel.specs.Leaving.{left_entry, left_items, with_left}
use Rattle.rl_channel.proofs.Left.{entry_same}
use Rattle.rl_channel.proofs.Kept.{gone_objects, same_objects}
use Rattle.rl_channel.proofs.Parts.{append_none, gone_leaves}
use Rattle.rl_channel.proofs.Told.{told_more}

members_left : (log : List Entry) (entry : Option Entry) → members_of (reverse (left_items entry) ++ reverse (items_of log)) ≡ members (log ++ option_to_list entry)
members_left log None = ap members (sym (append_none log))
members_left log (Some entry) = ap members_of (sym (told_more log entry))

parts_left : (conn : ℕ) (entry : Option Entry) (parts : Parts) → without_outcome conn (with_left entry parts) ≡ gone_parts conn entry parts
parts_left conn None parts = refl
parts_left conn (Some entry) parts = refl

-- the entry is the one of the definition
entry_is : (site : List ℕ) (past : List ChannelEvent) (conn now stamp : ℕ) (id : List ℕ) (clients : List (List ℕ)) (old : ChannelState)
    → StandsAt site old past → id ≡ conn_text conn → clients ≡ map (λ (item : PresenceItem). item.client) (filter (is_on id) old.members) → stamp ≡ max now old.clock
    → left_entry old.log.head stamp conn id clients ≡ entry_of_gone (head site past) (max now (clock past)) conn (members_on conn (decisions site past))
entry_is site past conn now stamp id clients old stands named are stamped =
    ap (left_entry old.log.head stamp conn id) are
    ∙ entry_same old.log.head stamp conn id old.members
    ∙ ap (λ (h : ℕ). entry_of_gone h stamp conn (filter (is_on id) old.members)) stands.keeps.head
    ∙ ap (λ (s : ℕ). entry_of_gone (head site past) s conn (filter (is_on id) old.members)) (stamped ∙ ap (max now) stands.clock)
    ∙ ap (λ (i : List ℕ). entry_of_gone (head site past) (max now (clock past)) conn (filter (is_on i) old.members)) named
    ∙ ap (λ (m : List PresenceItem). entry_of_gone (head site past) (max now (clock past)) conn (filter (is_on (conn_text conn)) m)) stands.members

pub goes : (site : List ℕ) (past : List ChannelEvent) (conn now stamp : ℕ) (id : List ℕ) (clients : List (List ℕ)) (old new : ChannelState) (left : ChanLogView) (place : Option ℕ)
    → StandsAt site old past → id ≡ conn_text conn → clients ≡ map (λ (item : PresenceItem). item.client) (filter (is_on id) old.members) → stamp ≡ max now old.clock
    → place ≡ option_map (λ (e : Entry). e.place) (left_entry old.log.head stamp conn id clients)
    → ((parts : Parts) → Keeps old.log parts → Keeps left (with_left (left_entry old.log.head stamp conn id clients) parts))
    → ((parts : Parts) → Keeps left parts → Keeps new.log (without_outcome conn parts))
    → ((latest : List PresenceItem) → old.members ≡ members_of latest → new.members ≡ members_of (reverse (left_items (left_entry old.log.head stamp conn id clients)) ++ latest))
    → new.objects ≡ old.objects → new.clock ≡ stamp
    → (place ≡ gone_place site past conn now) × StandsAt site new (Gone conn now ∷ past)
goes site past conn now stamp id clients old new left place stands named are stamped placed leaves forgets membered kept_objects clocked =
    let entry = left_entry old.log.head stamp conn id clients in
    let is = entry_is site past conn now stamp id clients old stands named are stamped in
    let kept : Keeps new.log (without_outcome conn (with_left entry (parts_of site past))) = forgets (with_left entry (parts_of site past)) (leaves (parts_of site past) stands.keeps) in
    let parts = parts_left conn entry (parts_of site past) ∙ sym (gone_leaves site past conn now entry is) in (
      placed ∙ ap (option_map (λ (e : Entry). e.place)) is,
      record {
        keeps = subst (Keeps new.log) parts kept;
        members = membered (told (decisions site past)) stands.members ∙ members_left (log site past) entry ∙ ap (λ (e : Option Entry). members (log site past ++ option_to_list e)) is;
        objects = gone_objects site new.objects past conn now (same_objects site old.objects new.objects past kept_objects stands.objects);
        clock = clocked ∙ stamped ∙ ap (max now) stands.clock;
      },
    )
