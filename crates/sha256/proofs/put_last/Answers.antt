use Rattle.std.proofs.Common.{◌*◌, ◌∙◌}
use Rattle.octets.proofs.Numbers.{be_mod}
use Rattle.sha256.proofs.Ends.{last_is}
use Rattle.sha256.proofs.put_last.Goals as goal

pub returns : goal.returns
returns c =
    let rest = c.args.rest.now in
    let b = c.copy_from_slice-2.ensures.after ∙ c.be_bytes.ensures ∙ be_mod 8 (c.args.size * 8) in
    let e = last_is c.args.out.now rest c.split_at_mut-said.result.1.now c.copy_from_slice-2.new.self c.args.size c.requires.zeros c.requires.room c.split_at_mut-said.ensures.back b in
    rw (c.copy_from_slice.ensures.after, e)
