mod CulledScores
