use Rattle.std.proofs.Common.{◌≡◌, ◌++◌, ◌∷◌, [], rules}
use Rattle.rl_model.specs.Script.{name_declared, channel_named, is_settle, fed_by}
use Rattle.rl_scriptlang.specs.Seen.{kept_after, put_by}
use Rattle.rl_scriptlang.proofs.Kept.{seen_after}
use Rattle.rl_scriptlang.proofs.seen.Seen.add.Goals as goal

pub invariant_of-self-2 : goal.invariant_of-self-2
invariant_of-self-2 c =
    let s = c.self.inside in
    let line = c.args.line in
    let same : c.args.self.now ≡ s.lines = search rules in
    let lines : c.push.new.self ≡ s.lines ++ line ∷ [] = search rules in
    let names : c.keep.new.kept ≡ kept_after s.client (name_declared line) = search rules in
    let channels : c.keep-2.new.kept ≡ kept_after s.channel (channel_named line) = search rules in
    let puts : c.put_by.result ≡ put_by line = search rules in
    let gives : c.fed_by.result ≡ fed_by line = search rules in
    let ends : c.is_settle-settled.result ≡ is_settle line = search rules in
    seen_after s.lines line s.client s.channel s.published s.fed s.settled _ _ _ _ _ _ _ c.self.invariant c.requires.scope same lines names channels puts gives ends
