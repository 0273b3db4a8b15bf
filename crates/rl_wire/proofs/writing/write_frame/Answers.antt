use Rattle.rl_wire.proofs.Direct.{reads_same}
use Rattle.rl_wire.proofs.writing.write_frame.Goals as goal

pub returns-clause-reads_back : goal.returns-clause-reads_back
returns-clause-reads_back c = rw (c.from_vec.ensures) (reads_same c.args.frame.now _ c.in_ok-bytes_of.ensures.text c.in_ok-bytes_of.ensures.utf8)
