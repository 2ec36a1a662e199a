use Rattle.vf_expand.proofs.tests.walked.Goals as goal

pub page-result-requires-clause-can : goal.page-result-requires-clause-can
page-result-requires-clause-can c = λ p is mark fits among. tt
