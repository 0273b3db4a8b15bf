use Rattle.std.proofs.Common.{rules}
use Rattle.std.proofs.lemmas.Map.Made.{map_same_pairs}
use Rattle.rl_clientmodel.specs.Channels.{channel_after}
use Rattle.rl_clientchannels.proofs.channels.ClientChannels.change_each.Goals as goal

pub returns : goal.returns
returns c =
    rw (← c.self.view_is) (map_same_pairs _ (channel_after c.args.step) _ (λ k v b w f' t. search rules) c.self.inside.channels.entries c.retain.new.self.entries c.retain.ensures.filtered)
