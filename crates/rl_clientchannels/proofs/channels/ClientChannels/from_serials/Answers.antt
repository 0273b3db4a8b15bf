use Rattle.std.proofs.Common.{◌≡◌, ℕ, List, ap, sym, ◌∙◌}
use Rattle.std.specs.Prelude.{Some, slice_get}
use Rattle.std.proofs.lemmas.Option.{slice_get-get_or}
use Rattle.rl_names.specs.Names.{with_entry}
use Rattle.rl_clientmodel.specs.Channels.{ClientChannel}
use Rattle.rl_clientchannels.proofs.Serials.{put_more}
use Rattle.rl_clientchannels.proofs.channels.ClientChannels.from_serials.Goals as goal

pub loop-one-preserved : goal.loop-one-preserved
loop-one-preserved c =
    let xs = c.args.serials.now in
    let k = c.loop-one.one-index in
    let one = c.one-item.result in
    let found : slice_get xs k ≡ Some one = slice_get-get_or xs k one c.loop-one-test.true ∙ ap Some (sym c.one-item.is) in
    c.in_ok-insert.ensures.ok
    ∙ ap (λ (name : List ℕ). with_entry name c.from_serial.result c.loop-one.channels) c.in_ok-copy.ensures
    ∙ ap (λ (part : ClientChannel). with_entry one.0 part c.loop-one.channels) c.from_serial.ensures
    ∙ ap (with_entry one.0 _) c.loop-one.invariant
    ∙ put_more k one xs c.requires found
