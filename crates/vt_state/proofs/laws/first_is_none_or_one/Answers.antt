use Rattle.vt_state.proofs.laws.first_is_none_or_one.Goals as goal

pub returns : goal.returns
returns c = λ events place wants event a nothing. nothing event a.found
