-- The example is computed.
use Rattle.std.specs.Prelude.{◌<◌, ◌^◌, ◌≡◌}
use Rattle.std.proofs.Common.{inl, inr, [], ◌∷◌, None, codes, refl, arith}
use Rattle.std.proofs.lemmas.List.Elements.{All-from_recursion}
use Rattle.std.specs.Fmt.{digits}
use Rattle.std.specs.Str.{is_utf8, chars}
use lib.Utf8.{encode}
use Rattle.rl_types.specs.declared.messages.Item.{Item}
use Rattle.rl_types.specs.declared.presence.PresenceItem.{PresenceItem}
use Rattle.rl_wireobj.specs.Sendable.{IsSendableState}
use Rattle.rl_actormodel.specs.Reads.{entry_head}
use Rattle.rl_actormodel.specs.Examples.{room}
use Rattle.rl_actormodel.specs.ChannelExamples.{message}
use Rattle.rl_actormodel.specs.SyncExamples.{member, root}
use Rattle.rl_actorlaws.specs.Carried.{IsEntry, AreMembers, AreObjects}
use Rattle.rl_actorlaws.specs.Shows.{said, ShowsSession}

said_is : IsEntry said
said_is name epoch n small =
    (((n, tt, (small, omega arith), omega arith), omega arith, All-from_recursion (λ (m : Item). m.id ≡ None → (entry_head name epoch said).id ≡ None) (message None ∷ []) (λ same. refl, tt)), omega arith)

members_are : AreMembers (member (codes "a") ∷ [])
members_are name place n c = (
  (n, c, All-from_recursion (λ (p : PresenceItem). p.stamp < 2 ^ 64) (member (codes "a") ∷ []) (omega arith, tt)),
  (omega arith, (record { made = omega arith; client = omega arith; payload = omega arith; encoding = omega arith }, tt)),
)

objects_are : AreObjects (root ∷ [])
objects_are name place n c = (
  (n, c, All-from_recursion IsSendableState (root ∷ []) ((refl, tt, All-from_recursion _ [] tt, (tt, All-from_recursion _ [] tt)), tt)),
  (omega arith, omega arith, (record { sites = omega arith; cells = tt }, tt)),
)

pub session : ShowsSession
unfolding digits is_utf8 chars encode
session = record {
  allowed = ((inr (room, inr refl, refl), refl), ((inr (room, inl refl, refl), refl), ((inr (room, inl refl, refl), refl), (tt, ((inl (0, refl), refl), ((inl (0, refl), refl), ((refl, refl), (tt, ((inl (0, refl), refl), tt)))))))));
  carried = ((said_is, tt), (objects_are, (members_are, (tt, ((omega arith, omega arith), (tt, (((omega arith, omega arith), tt), (tt, (omega arith, tt)))))))));
  out = refl;
}
